use lib.IntN.{pos}
use lib.ListN.{get_or}
use mir.Syntax.{w32}
use mir.Val.{SFits}
use Rattle.arithmetic.proofs.Laws.Fill.{filling_none, filling_more, filled-end}
use Rattle.tree_figures.proofs.Laws.Signs.{rises_is, falls_is, sloped}
use Rattle.tree_figures.proofs.write_slopes.Goals as goal

pub loop-x-init : goal.loop-x-init
loop-x-init c = (filling_none _ _ c.requires.room.0, filling_none _ _ c.requires.room.1)

pub loop-x-preserved : goal.loop-x-preserved
loop-x-preserved c =
    let w = c.loop-x.invariant in
    let l = c.loop-x-test.true in
    let z = get_or c.args.imbalance.now c.loop-x.x (pos 0) in
    let fits : SFits w32 z = record { sfits = c.requires.n_in_bounds.1.1 c.loop-x.x l } in (
      filling_more w.0 l (sloped _ _ (rises_is z fits) c.pick-length.ensures c.pick.ensures),
      filling_more w.1 l (sloped _ _ (falls_is z fits) c.pick-length.ensures c.pick-in-loop-x.ensures),
    )

pub returns-clause-up : goal.returns-clause-up
returns-clause-up c = filled-end c.loop-x.invariant.0 c.loop-x-test.false

pub returns-clause-down : goal.returns-clause-down
returns-clause-down c = filled-end c.loop-x.invariant.1 c.loop-x-test.false
