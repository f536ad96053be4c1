use native.Mathlib.Nat.{le_antisymm}
use native.Mathlib.Omega.{arith}
use Rattle.graph.specs.Graph.{graph_of}
use Rattle.graph.proofs.Laws.Edge.{edge_order}
use Rattle.tree_checks.proofs.Laws.Edges.{noted_none, noted_more}
use Rattle.tree_checks.proofs.checks.note_edges.Goals as goal

pub loop-e-init : goal.loop-e-init
loop-e-init c = noted_none _ _ _ _ c.requires.fresh

pub note-requires : goal.note-requires
note-requires c =
    let g = graph_of c.args.g.now in
    let o = edge_order g c.requires.order c.loop-e.e c.loop-e-test.true in
    (omega arith, (omega arith, omega arith))

pub note-requires-in-loop-e : goal.note-requires-in-loop-e
note-requires-in-loop-e c =
    let g = graph_of c.args.g.now in
    let o = edge_order g c.requires.order c.loop-e.e c.loop-e-test.true in
    (omega arith, (omega arith, omega arith))

pub loop-e-preserved : goal.loop-e-preserved
loop-e-preserved c =
    noted_more _ _ c.requires.order _ c.loop-e-test.true c.loop-e.invariant c.note.ensures c.note-in-loop-e.ensures

pub returns : goal.returns
returns c = rw (le_antisymm c.loop-e.auto.e-end c.loop-e-test.false) at c.loop-e.invariant
