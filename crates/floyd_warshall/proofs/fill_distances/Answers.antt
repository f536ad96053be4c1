use native.Mathlib.Omega.{arith}
use Rattle.graph.specs.Graph.{Graph, graph_of}
use Rattle.floyd_warshall.proofs.Laws.FloydWarshall.{via_bounded, via-zero, via_more, via-end}
use Rattle.floyd_warshall.proofs.fill_distances.Goals as goal

pub phase-requires : goal.phase-requires
phase-requires c =
    let g : Graph = graph_of c.args.g.now in
    let w = c.loop-k.invariant in (
      omega arith,
      via_bounded g _ (omega arith) _ _ w c.requires.2 c.requires.3,
      via-zero g _ (omega arith) _ _ w _ (omega arith),
    )

pub loop-k-preserved : goal.loop-k-preserved
loop-k-preserved c =
    let g : Graph = graph_of c.args.g.now in
    via_more g _ (omega arith) _ _ c.loop-k.invariant _ c.loop-k-test.true c.phase.ensures

pub returns : goal.returns
returns c =
    let g : Graph = graph_of c.args.g.now in
    via-end g _ (omega arith) _ _ c.loop-k.invariant _ c.loop-k.auto.k-end c.loop-k-test.false c.start.ensures
