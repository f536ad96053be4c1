use Rattle.arithmetic.specs.Table.{at}
use Rattle.arithmetic.specs.Steps.Fill.{Filling}
use Rattle.first_basis.specs.Steps.Perturbed.{perturbed}
use Rattle.first_basis.proofs.perturb.Given as goal

abbrev pub invariant-loop-y : goal.invariant-loop-y
invariant-loop-y l = Filling l.n (perturbed l.first l.rest (at l.masses)) l.initial.out l.out l.y
