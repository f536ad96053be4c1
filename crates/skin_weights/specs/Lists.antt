-- Document 02, W-205: lists of weights and of amounts, as two calls on a given list and a lent one for the answer.
use Rattle.std.specs.Prelude.{ℕ, ◌^◌, Bool, leb, List, [], ◌∷◌, length, nat_le, slice_index_or, Float}
use Rattle.std.specs.Float.{nan}
use Rattle.arithmetic.specs.Bools.{all}
use Rattle.arithmetic.specs.Refusal.{check, refusal}
use Rattle.arithmetic.specs.Table.{at, tab, written}
use Rattle.skin_weights.specs.Weight.{in_unit_interval, whole_grains, amount_of, weight_of}

-- the weight at place i
abbrev pub weight_at : List Float → ℕ → Float
weight_at weights i = slice_index_or weights i nan

-- "15, some weight below 0, above 1 or no number"
abbrev pub weights_ok : List Float → Bool
weights_ok weights = all (length weights) (λ i. in_unit_interval (weight_at weights i))

-- "16, some weight that isn't a whole number of grains"
abbrev pub grains_ok : List Float → Bool
grains_ok weights = all (length weights) (λ i. whole_grains (weight_at weights i))

-- "on the way back an amount above 16,777,216"
abbrev pub amounts_ok : List ℕ → Bool
amounts_ok amounts = all (length amounts) (λ i. leb (at amounts i) (2 ^ 24))

-- 15, "then 16"; "both after 2, which here is an answer list shorter than the one given"
unfoldable pub amounts_refusal : (weights : List Float) (amounts : List ℕ) → ℕ
amounts_refusal weights amounts =
    refusal (check 2 (nat_le (length weights) (length amounts)) ∷ check 15 (weights_ok weights) ∷ check 16 (grains_ok weights) ∷ [])

-- the way back: 2, then 15
unfoldable pub weights_refusal : (amounts : List ℕ) (weights : List Float) → ℕ
weights_refusal amounts weights =
    refusal (check 2 (nat_le (length amounts) (length weights)) ∷ check 15 (amounts_ok amounts) ∷ [])

-- "Turn a list of these into grains"
unfoldable pub amounts_of : List Float → List ℕ
amounts_of weights = tab (length weights) (λ i. amount_of (weight_at weights i))

-- "The way back gives each amount .. its float"
unfoldable pub weights_of : List ℕ → List Float
weights_of amounts = tab (length amounts) (λ i. weight_of (at amounts i))

-- the lent list of amounts after the call: "On refusal the lent list is untouched"
unfoldable pub amounts_table : (weights : List Float) (amounts : List ℕ) → List ℕ
amounts_table weights amounts = written (amounts_refusal weights amounts) (amounts_of weights) amounts

-- and that of weights
unfoldable pub weights_table : (amounts : List ℕ) (weights : List Float) → List Float
weights_table amounts weights = written (weights_refusal amounts weights) (weights_of amounts) weights
