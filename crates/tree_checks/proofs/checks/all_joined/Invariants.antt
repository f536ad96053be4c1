use mathlib.Core.Path.{◌≡◌}
use mathlib.Core.Bool.{true, ◌||◌}
use lib.Dec.{eqb}
use Rattle.arithmetic.specs.Bools.{all}
use Rattle.graph.specs.Checks.{marked}
use Rattle.tree_checks.proofs.checks.all_joined.Given as goal

abbrev pub invariant-loop-x : goal.invariant-loop-x
invariant-loop-x l = all l.x (λ z. eqb z l.root || marked l.joined z) ≡ true
