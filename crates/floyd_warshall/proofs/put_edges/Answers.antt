use native.Mathlib.Omega.{arith}
use Rattle.graph.specs.Graph.{Graph, graph_of}
use Rattle.graph.proofs.Laws.Edge.{edge_order}
use Rattle.graph.proofs.Laws.Accepted.{lists_fit_in}
use Rattle.floyd_warshall.proofs.Laws.FloydWarshall.{edges_none, edges_more, edges-end}
use Rattle.floyd_warshall.proofs.put_edges.Goals as goal

pub loop-e-init : goal.loop-e-init
loop-e-init c = edges_none (graph_of c.args.g.now) c.requires.1 _ c.requires.2

pub bounds-g-e-in-loop-e : goal.bounds-g-e-in-loop-e
bounds-g-e-in-loop-e c = omega (arith, (lists_fit_in _ _ _ c.requires.0).1.0)

pub bounds-g-e-in-loop-e-2 : goal.bounds-g-e-in-loop-e-2
bounds-g-e-in-loop-e-2 c = omega (arith, (lists_fit_in _ _ _ c.requires.0).1.1)

pub put-requires : goal.put-requires
put-requires c =
    let o = edge_order (graph_of c.args.g.now) c.requires.1 c.loop-e.e c.loop-e-test.true in
    omega arith

pub put-requires-in-loop-e : goal.put-requires-in-loop-e
put-requires-in-loop-e c =
    let o = edge_order (graph_of c.args.g.now) c.requires.1 c.loop-e.e c.loop-e-test.true in
    omega arith

pub loop-e-preserved : goal.loop-e-preserved
loop-e-preserved c =
    let g : Graph = graph_of c.args.g.now in
    edges_more g c.requires.1 _ c.requires.2 _ _ _ _ c.loop-e-test.true c.loop-e.invariant c.put.ensures c.put-in-loop-e.ensures

pub returns : goal.returns
returns c =
    let g : Graph = graph_of c.args.g.now in
    edges-end g c.requires.1 _ c.requires.2 _ _ c.loop-e.auto.e-end c.loop-e-test.false c.loop-e.invariant
