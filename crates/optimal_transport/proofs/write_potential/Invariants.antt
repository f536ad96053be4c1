use lib.IntN.{sub_ℕ}
use Rattle.arithmetic.specs.Table.{at}
use Rattle.arithmetic.specs.Steps.Fill.{Filling}
use Rattle.optimal_transport.proofs.write_potential.Given as goal

abbrev pub invariant-loop-y : goal.invariant-loop-y
invariant-loop-y l = Filling l.n (λ z. sub_ℕ (at l.u z) (at l.u 0)) l.initial.potential l.potential l.y
