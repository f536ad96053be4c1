-- Words as sets: bit i of a word, and the word of a test.
use Rattle.std.specs.Prelude.{Bool, ℕ, zero, suc, ◌+◌, ◌^◌}
use Rattle.arithmetic.specs.Sum.{pick}

-- the word whose bits below m are p's
unfoldable pub mask : ℕ → (ℕ → Bool) → ℕ
mask zero p = 0
mask (suc m) p = mask m p + pick (p m) (2 ^ m)
