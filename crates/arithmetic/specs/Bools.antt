-- Tests: case analysis that keeps the equation, and tests over all numbers below a bound.
use Rattle.std.specs.Prelude.{Bool, true, false, ◌&&◌, ◌||◌, ℕ, zero, suc}

-- p holds at every number below m
unfoldable pub all : ℕ → (ℕ → Bool) → Bool
all zero p = true
all (suc m) p = all m p && p m

-- p holds at some number below m
unfoldable pub any : ℕ → (ℕ → Bool) → Bool
any zero p = false
any (suc m) p = any m p || p m
