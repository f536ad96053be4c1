use mathlib.Core.Path.{refl}
use borrow.Author.Tests.{lt-ltb, le-ltb}
use Rattle.dijkstra.proofs.Laws.Relaxing.{nearer_first, nearer_more}
use Rattle.dijkstra.proofs.nearest.Goals as goal

pub loop-left-init : goal.loop-left-init
loop-left-init c =
    (nearer_first c.requires.0 c.lowest_vertex-x.ensures _ c.without_lowest-left.ensures, refl)

pub loop-left-preserved-then-near-least : goal.loop-left-preserved-then-near-least
loop-left-preserved-then-near-least c =
    let more = nearer_more c.loop-left.invariant.0 c.lowest_vertex-v.ensures _ c.without_lowest-left-in-loop-left.ensures in
    (more _ (rw (lt-ltb _ _ (rw c.loop-left.invariant.1 at c.if-near-least.true))), refl)

pub loop-left-preserved : goal.loop-left-preserved
loop-left-preserved c =
    let more = nearer_more c.loop-left.invariant.0 c.lowest_vertex-v.ensures _ c.without_lowest-left-in-loop-left.ensures in
    (more _ (rw (le-ltb _ _ (rw c.loop-left.invariant.1 at c.if-near-least.false))), c.loop-left.invariant.1)
