use Rattle.first_basis.specs.Steps.FirstBasis.{LengthsAbove}
use Rattle.first_basis.proofs.lengths_above.Given as goal

abbrev pub invariant-loop-x : goal.invariant-loop-x
invariant-loop-x l = LengthsAbove l.lengths l.edge l.initial.out l.out l.x
