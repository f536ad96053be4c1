use lib.IntN.{pos}
use lib.ListN.{get_or}
use Rattle.arithmetic.specs.Table.{at}
use Rattle.arithmetic.specs.Steps.Fill.{Filling}
use Rattle.tree_figures.specs.Steps.Tables.{potential_from}
use Rattle.tree_figures.proofs.write_potential.Given as goal

abbrev pub invariant-loop-y : goal.invariant-loop-y
invariant-loop-y l = Filling l.n (potential_from l.n l.root (at l.masks) (at l.above) (λ x. get_or l.imbalance x (pos 0))) l.initial.out l.out l.y
