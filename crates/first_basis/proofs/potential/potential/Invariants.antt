use Rattle.arithmetic.specs.Steps.Fill.{Filling}
use Rattle.first_basis.specs.Steps.TreePotential.{potential_at}
use Rattle.first_basis.proofs.potential.potential.Given as goal

abbrev pub invariant-loop-y : goal.invariant-loop-y
invariant-loop-y l = Filling l.n (potential_at l.n l.parents l.above l.subtrees.supply l.subtrees.demand) l.initial.out l.out l.y
