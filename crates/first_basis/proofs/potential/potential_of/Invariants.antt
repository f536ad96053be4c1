use Rattle.arithmetic.specs.Table.{at}
use Rattle.rooted_tree.specs.Chain.{depth}
use Rattle.first_basis.proofs.Laws.TreePotential.{PotentialFrom}
use Rattle.first_basis.proofs.potential.potential_of.Given as goal

abbrev pub invariant-loop-x : goal.invariant-loop-x
invariant-loop-x l = PotentialFrom l.n l.parents l.above l.subtrees.supply l.subtrees.demand l.y l.x l.u

abbrev pub decreases-loop-x : goal.decreases-loop-x
decreases-loop-x l = depth (at l.parents) 0 l.n l.x
