use mathlib.Core.Path.{refl}
use lib.Seq.{length-take-le}
use Rattle.arithmetic.proofs.Laws.Fill.{filling_none, filling_more, filled-end}
use Rattle.arithmetic.proofs.Laws.Slices.{replicate_tab, filled_front}
use Rattle.tree_walks.proofs.Laws.Walking.{masks_none, masks_more, masks_end}
use Rattle.tree_walks.proofs.walk.subtree_masks.Goals as goal

pub loop-y-init : goal.loop-y-init
loop-y-init c =
    let room = c.requires.n_bound.1.1 in
    (filling_none _ _ room.0, masks_none _ _ (filled_front room.1 (rw (c.fill.ensures.after (λ _ e. e), length-take-le c.args.n c.args.masks.now room.1, replicate_tab) refl)))

pub loop-y-preserved : goal.loop-y-preserved
loop-y-preserved c =
    let w = c.loop-y.invariant in
    (filling_more w.0 c.loop-y-test.true c.walk_up.ensures.steps, masks_more _ _ _ w.1 c.walk_up.ensures.bits)

pub returns-clause-steps : goal.returns-clause-steps
returns-clause-steps c = filled-end c.loop-y.invariant.0 c.loop-y-test.false

pub returns-clause-bits : goal.returns-clause-bits
returns-clause-bits c = masks_end _ _ _ c.loop-y.auto.y-end c.loop-y-test.false c.loop-y.invariant.1
