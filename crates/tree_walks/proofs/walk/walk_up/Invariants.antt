use Rattle.arithmetic.specs.Table.{at}
use Rattle.rooted_tree.specs.Chain.{depth}
use Rattle.rooted_tree.proofs.Laws.Climb.{Climbing}
use Rattle.tree_walks.proofs.Laws.Walking.{Walking}
use Rattle.tree_walks.proofs.walk.walk_up.Given as goal

abbrev pub invariant-loop-x : goal.invariant-loop-x
invariant-loop-x l = Climbing l.n l.root (at l.parents) (λ _. 1) l.y l.x l.d × Walking l.n (at l.parents) l.y l.initial.masks l.masks l.x

abbrev pub decreases-loop-x : goal.decreases-loop-x
decreases-loop-x l = depth (at l.parents) l.root l.n l.x
