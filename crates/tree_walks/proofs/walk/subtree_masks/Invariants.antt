use Rattle.arithmetic.specs.Table.{at}
use Rattle.arithmetic.specs.Steps.Fill.{Filled, Filling}
use Rattle.rooted_tree.specs.Chain.{depth}
use Rattle.tree_walks.proofs.Laws.Walking.{masks_to}
use Rattle.tree_walks.proofs.walk.subtree_masks.Given as goal

abbrev pub invariant-loop-y : goal.invariant-loop-y
invariant-loop-y l = Filling l.n (depth (at l.parents) l.root l.n) l.initial.depths l.depths l.y × Filled l.n (masks_to l.n (at l.parents) l.y) l.fn.masks l.masks
