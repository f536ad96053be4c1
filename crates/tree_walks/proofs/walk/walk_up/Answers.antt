use native.Mathlib.Omega.{arith}
use mathlib.Core.Path.{refl, ◌∙◌}
use Rattle.rooted_tree.proofs.Laws.Rooted.{depth-lt}
use Rattle.rooted_tree.proofs.Laws.Climb.{climbed-depth, climbing_none, climbing_less, climbing_fits, climbing_more, climbing_end}
use Rattle.tree_walks.proofs.Laws.Walking.{walking_none, walking_more, walking_end}
use Rattle.tree_walks.proofs.walk.walk_up.Goals as goal

pub loop-x-init : goal.loop-x-init
loop-x-init c = (climbing_none _ _ _ (omega arith), walking_none _ _ (omega arith) (omega arith))

pub returns-then-x-root-clause-steps : goal.returns-then-x-root-clause-steps
returns-then-x-root-clause-steps c =
    let t = c.requires.tree in
    climbing_end t c.loop-x.invariant.0 (omega arith) ∙ climbed-depth t c.args.y (omega arith)

pub returns-then-x-root-clause-bits : goal.returns-then-x-root-clause-bits
returns-then-x-root-clause-bits c =
    let t = c.requires.tree in
    rw c.mark.ensures (walking_end t c.loop-x.invariant.1 (omega arith))

pub overflow_add-d : goal.overflow_add-d
overflow_add-d c =
    let t = c.requires.tree in
    omega (arith, climbing_fits t c.loop-x.invariant.0 (search) refl, climbed-depth t c.args.y (omega arith), depth-lt t c.args.y (omega arith))

pub loop-x-smaller : goal.loop-x-smaller
loop-x-smaller c =
    climbing_less c.requires.tree c.loop-x.invariant.0 (search)

pub loop-x-preserved : goal.loop-x-preserved
loop-x-preserved c =
    (climbing_more c.requires.tree c.loop-x.invariant.0 (search) refl, rw c.mark.ensures (walking_more c.requires.tree c.loop-x.invariant.1 (search)))
