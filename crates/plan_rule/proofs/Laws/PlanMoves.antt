-- The moves of a plan depend on its entries alone.
use mathlib.Core.Path.{◌≡◌}
use mathlib.Core.List.{List}
use Prim.Native.Nat.{ℕ, ◌<◌}
use Rattle.arithmetic.specs.Steps.Table.{cell}
use Rattle.arithmetic.specs.Steps.Matrix.{filled}
use Rattle.arithmetic.proofs.Laws.Sum.{sum_ext}
use Rattle.arithmetic.proofs.Laws.Matrix.{filled_at}
use Rattle.plan_rule.specs.Plan.{moves}

pub moves_ext : (n : ℕ) (t u : ℕ → ℕ → ℕ) → ((i j : ℕ) → i < n → j < n → t i j ≡ u i j) → moves n t ≡ moves n u
unfolding moves
moves_ext n t u h = sum_ext n _ _ (λ i k. sum_ext n _ _ (λ j l. rw (h i j k l)))

-- those of a filled table are those of what fills it
pub moves-filled : (n : ℕ) (t : ℕ → ℕ → ℕ) (lent : List ℕ) → moves n (λ i j. cell n (filled n t lent) i j) ≡ moves n t
moves-filled n t lent = moves_ext n _ t (filled_at n t lent)
