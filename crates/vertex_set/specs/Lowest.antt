-- The lowest number at which a test holds: the lowest vertex of a set.
use Rattle.std.specs.Prelude.{Bool, cond, ℕ, zero, suc}

-- the lowest number from i on at which the test holds, or i + k if none of the k numbers is
unfoldable pub lowest : (ℕ → Bool) → ℕ → ℕ → ℕ
lowest f zero i = i
lowest f (suc k) i = cond (f i) i (lowest f k (suc i))
