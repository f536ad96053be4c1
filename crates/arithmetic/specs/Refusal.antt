-- Document 01, "What is refused": numbered checks, and the number that a call returns.
use Rattle.std.specs.Prelude.{ℕ, Bool, cond, List, [], ◌∷◌}

-- a check of the table: its number, and a test that is true where it refuses nothing
pub record Check : Type 0 where
  pub number : ℕ
  pub test : Bool

abbrev pub check : ℕ → Bool → Check
check k b = record { number = k; test = b }

-- "Checks run down the table": the number of the first check whose test fails, 0 if none does
unfoldable pub refusal : List Check → ℕ
refusal [] = 0
refusal (c ∷ cs) = cond c.test (refusal cs) c.number
