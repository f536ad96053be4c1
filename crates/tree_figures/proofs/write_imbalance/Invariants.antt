use lib.IntN.{sub_ℕ}
use Rattle.arithmetic.specs.Table.{at}
use Rattle.arithmetic.specs.Steps.Fill.{Filling}
use Rattle.tree_figures.proofs.write_imbalance.Given as goal

abbrev pub invariant-loop-x : goal.invariant-loop-x
invariant-loop-x l = Filling l.n (λ z. sub_ℕ (at l.supply z) (at l.demand z)) l.initial.out l.out l.x
