use mathlib.Core.Path.{◌≡◌}
use Rattle.arithmetic.specs.Table.{at}
use Rattle.tree_figures.specs.Steps.Tables.{cost_from}
use Rattle.tree_figures.proofs.tree_cost.Given as goal

abbrev pub invariant-loop-x : goal.invariant-loop-x
invariant-loop-x l = l.cost ≡ cost_from l.x l.root (at l.above) (at l.supply) (at l.demand)
