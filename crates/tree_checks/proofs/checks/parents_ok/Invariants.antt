use Prim.Native.Nat.{ℕ, ◌<◌}
use mathlib.Core.Path.{◌≡◌}
use Rattle.arithmetic.specs.Table.{at}
use Rattle.tree_checks.proofs.checks.parents_ok.Given as goal

abbrev pub invariant-loop-x : goal.invariant-loop-x
invariant-loop-x l = (z : ℕ) → z < l.x → (at l.parents z < l.n) × (at l.parents z ≡ z → z ≡ l.root)
