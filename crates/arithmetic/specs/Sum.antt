-- Finite sums of naturals: `sum n f` is f 0 + .. + f (n - 1).
use Rattle.std.specs.Prelude.{ℕ, zero, suc, ◌+◌, Bool, true, false}

-- v where the test holds, else 0
abbrev pub pick : Bool → ℕ → ℕ
pick true v = v
pick false v = 0

unfoldable pub sum : ℕ → (ℕ → ℕ) → ℕ
sum zero f = 0
sum (suc n) f = sum n f + f n
