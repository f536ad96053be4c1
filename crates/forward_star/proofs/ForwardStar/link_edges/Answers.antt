use native.Mathlib.Omega.{arith}
use Rattle.forward_star.proofs.Laws.Linked.{linked_none, linked_edge}
use Rattle.forward_star.proofs.ForwardStar.link_edges.Goals as goal

pub loop-e-init : goal.loop-e-init
loop-e-init c = linked_none _ _

pub loop-e-preserved : goal.loop-e-preserved
loop-e-preserved c =
    let ends-in = c.requires.ends c.loop-e.e c.loop-e-test.true in
    linked_edge _ _ c.loop-e.invariant ends-in.0 ends-in.1 (omega (arith, c.requires)) _ _ _ _
    c.link_arc.ensures.0 c.link_arc.ensures.1 c.link_arc-in-loop-e.ensures.0 c.link_arc-in-loop-e.ensures.1
