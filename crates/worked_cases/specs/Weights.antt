-- Document 02, W-205, on some lists: weights to amounts and back. A float stands as its 32 bits.
use Rattle.std.specs.Prelude.{ℕ, Bool, ◌&&◌, List, [], ◌∷◌, map, eqb, Float}
use Rattle.std.specs.Float.{binary32}
use Rattle.std.specs.Float.Ieee.{of_bits, to_bits}
use Rattle.skin_weights.specs.Lists.{amounts_refusal, weights_refusal, amounts_table, weights_table}
use Rattle.worked_cases.specs.Figures.{sames}

-- a given list and a lent one; the number that the call gives, and the lent list after it
pub record ListCase : Type 0 where
  pub given : List ℕ
  pub lent : List ℕ
  pub refusal : ℕ
  pub after : List ℕ

abbrev pub list_case : (given lent : List ℕ) → ℕ → (after : List ℕ) → ListCase
list_case given lent k after = record { given = given; lent = lent; refusal = k; after = after }

abbrev pub floats : List ℕ → List Float
floats bits = map (of_bits binary32) bits

-- weights to amounts
unfoldable pub turns_in : ListCase → Bool
turns_in c = eqb (amounts_refusal (floats c.given) c.lent) c.refusal && sames eqb (amounts_table (floats c.given) c.lent) c.after

-- and back
unfoldable pub turns_out : ListCase → Bool
turns_out c =
    eqb (weights_refusal c.given (floats c.lent)) c.refusal
    && sames eqb (map (to_bits binary32) (weights_table c.given (floats c.lent))) c.after

-- 1, 3/4, one grain, 0 and -0, with a place more; no weight; refused by 2 before 15; by 15 behind a tenth, which is refused by 16: the float above 1,
-- the one below 0, an infinity, no number; and by 16: a tenth, half a grain, the least float
abbrev pub weight_cases : List ListCase
weight_cases =
    list_case (0x3f80_0000 ∷ 0x3f40_0000 ∷ 0x3380_0000 ∷ 0 ∷ 0x8000_0000 ∷ []) (7 ∷ 7 ∷ 7 ∷ 7 ∷ 7 ∷ 9 ∷ []) 0 (16777216 ∷ 12582912 ∷ 1 ∷ 0 ∷ 0 ∷ 9 ∷ [])
    ∷ list_case [] (7 ∷ []) 0 (7 ∷ [])
    ∷ list_case (0x7fc0_0000 ∷ 0 ∷ []) (7 ∷ []) 2 (7 ∷ [])
    ∷ list_case (0x3dcc_cccd ∷ 0x3f80_0001 ∷ []) (7 ∷ 7 ∷ []) 15 (7 ∷ 7 ∷ [])
    ∷ list_case (0x3dcc_cccd ∷ 0x8000_0001 ∷ []) (7 ∷ 7 ∷ []) 15 (7 ∷ 7 ∷ [])
    ∷ list_case (0x3dcc_cccd ∷ 0x7f80_0000 ∷ []) (7 ∷ 7 ∷ []) 15 (7 ∷ 7 ∷ [])
    ∷ list_case (0x3dcc_cccd ∷ 0x7fc0_0000 ∷ []) (7 ∷ 7 ∷ []) 15 (7 ∷ 7 ∷ [])
    ∷ list_case (0x3f80_0000 ∷ 0x3dcc_cccd ∷ []) (7 ∷ 7 ∷ []) 16 (7 ∷ 7 ∷ [])
    ∷ list_case (0x3300_0000 ∷ []) (7 ∷ []) 16 (7 ∷ [])
    ∷ list_case (1 ∷ []) (7 ∷ []) 16 (7 ∷ [])
    ∷ []

-- the same weights, out of their amounts; refused by 2 before 15; by 15 for one grain more
abbrev pub amount_cases : List ListCase
amount_cases =
    list_case (16777216 ∷ 12582912 ∷ 1 ∷ 0 ∷ []) (5 ∷ 5 ∷ 5 ∷ 5 ∷ 6 ∷ []) 0 (0x3f80_0000 ∷ 0x3f40_0000 ∷ 0x3380_0000 ∷ 0 ∷ 6 ∷ [])
    ∷ list_case (16777217 ∷ 0 ∷ []) (5 ∷ []) 2 (5 ∷ [])
    ∷ list_case (0 ∷ 16777217 ∷ []) (5 ∷ 5 ∷ []) 15 (5 ∷ 5 ∷ [])
    ∷ []
