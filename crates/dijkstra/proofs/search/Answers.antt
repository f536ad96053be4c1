use native.Mathlib.Omega.{arith}
use Rattle.graph.proofs.Laws.Formed.{vertices}
use Rattle.dijkstra.proofs.Laws.Search.{searching_start, settle_can, settle_all, settle_less, found, handed_out}
use Rattle.dijkstra.proofs.search.Goals as goal

pub offset_bounds-labels-start : goal.offset_bounds-labels-start
offset_bounds-labels-start c = omega (arith, c.requires.can.start_in, vertices c.requires.can.formed)

pub bounds-labels-start : goal.bounds-labels-start
bounds-labels-start c = omega (arith, c.requires.can.start_in, vertices c.requires.can.formed)

pub overflow_shl-frontier : goal.overflow_shl-frontier
overflow_shl-frontier c = omega (arith, c.requires.can.start_in, vertices c.requires.can.formed)

pub loop-frontier-init : goal.loop-frontier-init
loop-frontier-init c = searching_start c.requires.can

pub relax_edges-frontier-requires : goal.relax_edges-frontier-requires
relax_edges-frontier-requires c =
    settle_can c.requires c.loop-frontier.labels c.loop-frontier.invariant.0 c.loop-frontier.invariant.1 c.nearest-x.ensures

pub loop-frontier-smaller : goal.loop-frontier-smaller
loop-frontier-smaller c =
    settle_less c.requires c.loop-frontier.labels c.loop-frontier.invariant.0 c.loop-frontier.invariant.1 c.nearest-x.ensures _ c.relax_edges-frontier.ensures

pub loop-frontier-preserved : goal.loop-frontier-preserved
loop-frontier-preserved c =
    settle_all c.requires c.loop-frontier.labels c.loop-frontier.invariant.0 c.loop-frontier.invariant.1 c.nearest-x.ensures _ c.relax_edges-frontier.ensures

pub all_reached-requires : goal.all_reached-requires
all_reached-requires c = omega (arith, vertices c.requires.can.formed, c.loop-frontier.invariant.0)

pub returns : goal.returns
returns c =
    handed_out (found c.requires.can (rw c.loop-frontier-test.false at c.loop-frontier.invariant.1) c.loop-frontier.invariant.0 _ c.all_reached.ensures)
    c.then_some.ensures
