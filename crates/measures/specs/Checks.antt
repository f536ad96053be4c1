-- Document 01, "What is refused": checks 6 and 7, each a test that is true where nothing is refused. mu and nu are the paintings.
use Rattle.std.specs.Prelude.{ℕ, ◌^◌, Bool, ◌&&◌, List, [], ◌∷◌, eqb, leb}
use Rattle.arithmetic.specs.Sum.{sum}
use Rattle.arithmetic.specs.Refusal.{Check, check}

-- 6: "a total above 16,777,216", of one painting
unfoldable pub total_ok : ℕ → (ℕ → ℕ) → Bool
total_ok n amounts = leb (sum n amounts) (2 ^ 24)

-- and of two
abbrev pub totals_ok : ℕ → (ℕ → ℕ) → (ℕ → ℕ) → Bool
totals_ok n mu nu = total_ok n mu && total_ok n nu

-- 7: "totals differ"
unfoldable pub totals_equal : ℕ → (ℕ → ℕ) → (ℕ → ℕ) → Bool
totals_equal n mu nu = eqb (sum n mu) (sum n nu)

-- 6 and 7
unfoldable pub measure_checks : ℕ → (ℕ → ℕ) → (ℕ → ℕ) → List Check
measure_checks n mu nu = check 6 (totals_ok n mu nu) ∷ check 7 (totals_equal n mu nu) ∷ []
