-- The integers as differences of naturals: `sub_ℕ a b` is a - b, and each operation is one law on such differences.
use Rattle.std.specs.Prelude.{Bool, true, false, ℕ, zero, suc, ℤ, pos, ◌+ℤ◌}

-- v where the test holds, else 0
abbrev pub pick_ℤ : Bool → ℤ → ℤ
pick_ℤ true v = v
pick_ℤ false v = pos 0

-- f 0 + .. + f (n - 1)
unfoldable pub sum_ℤ : ℕ → (ℕ → ℤ) → ℤ
sum_ℤ zero f = pos 0
sum_ℤ (suc n) f = sum_ℤ n f +ℤ f n
