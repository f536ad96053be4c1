-- Whole lists: out and in again gives the amounts, in and out again the weights but for negative zero.
use Rattle.std.proofs.Common.{◌≡◌, ℕ, ◌^◌, ◌<◌, ◌≤◌, true, List, ◌++◌, length, drop, sym, refl, ap, ◌∙◌, append-nil, arith, drop_of_length-le, ext_get_or, le-leb, leb-true}
use lib.Ieee.{Float, nan, binary32, fits}
use denote.Floats.{passes}
use Rattle.arithmetic.specs.Bools.{all}
use Rattle.arithmetic.specs.Table.{at, tab, written}
use Rattle.arithmetic.proofs.Laws.Bools.{all-at, all_intro}
use Rattle.arithmetic.proofs.Laws.Table.{length-tab, tab-at, tab_ext}
use Rattle.skin_weights.specs.Weight.{in_unit_interval, whole_grains, amount_of, weight_of, positive_zero}
use Rattle.skin_weights.specs.Lists.{weight_at, amounts_refusal, weights_refusal, amounts_of, weights_of, amounts_table, weights_table}
use Rattle.skin_weights.proofs.Laws.Exact.{Weighs, weighs, amount-le, back_again}
use Rattle.skin_weights.proofs.Laws.Lists.{amounts_accepted, amounts_passed, weights_accepted, weights_passed}

-- ---- what an accepted list has passed, and what the call leaves

module _ (ws : List Float) (xs : List ℕ) (h : amounts_refusal ws xs ≡ 0) where
  unit_at : (i : ℕ) → i < length ws → in_unit_interval (weight_at ws i) ≡ true
  unit_at i l = all-at (length ws) _ (amounts_passed ws xs h).1 i l

  whole_at : (i : ℕ) → i < length ws → whole_grains (weight_at ws i) ≡ true
  whole_at i l = all-at (length ws) _ (amounts_passed ws xs h).2 i l

  amounts_left : amounts_table ws xs ≡ amounts_of ws ++ drop (length ws) xs
  unfolding amounts_of amounts_table
  amounts_left = rw (h, length-tab (length ws) _)

module _ (xs : List ℕ) (ws : List Float) (h : weights_refusal xs ws ≡ 0) where
  low_at : (i : ℕ) → i < length xs → at xs i ≤ 2 ^ 24
  low_at i l = leb-true _ _ (all-at (length xs) _ (weights_passed xs ws h).1 i l)

  weights_left : weights_table xs ws ≡ weights_of xs ++ drop (length xs) ws
  unfolding weights_of weights_table
  weights_left = rw (h, length-tab (length xs) _)

-- ---- round trips

-- a table filled to its end is the answer
all_of : {A : Type 0} (n : ℕ) (f : ℕ → A) (lent : List A) → length lent ≡ n → tab n f ++ drop n lent ≡ tab n f
all_of n f lent e = ap (λ (l : List _). tab n f ++ l) (drop_of_length-le lent {i = n} (omega arith)) ∙ append-nil (tab n f)

-- a list of weights as long as the amounts that it is filled with, and any list with room for them
module _ (xs : List ℕ) (ws : List Float) (h : weights_refusal xs ws ≡ 0) (w : length ws ≡ length xs) (ys : List ℕ) (y : length xs ≤ length ys) where
  abbrev out : List Float
  out = tab (length xs) (λ i. weight_of (at xs i))

  out_is : weights_table xs ws ≡ out
  unfolding weights_of
  out_is = weights_left xs ws h ∙ all_of (length xs) _ ws w

  weighs_at : (i : ℕ) → i < length xs → Weighs (at xs i) (weight_at out i)
  weighs_at i l = rw (tab-at (length xs) (λ j. weight_of (at xs j)) nan i l) (weighs (at xs i) (low_at xs ws h i l))

  long : length out ≡ length xs
  long = length-tab (length xs) (λ i. weight_of (at xs i))

  accepted : amounts_refusal out ys ≡ 0
  accepted =
      sym (amounts_accepted out ys (omega (arith, long, y))
      (all_intro (length out) _ (λ i l. (weighs_at i (omega (arith, long))).unit))
      (all_intro (length out) _ (λ i l. (weighs_at i (omega (arith, long))).whole)))

  same : amounts_of out ≡ xs
  unfolding amounts_of
  same =
      ext_get_or 0 (tab (length out) (λ i. amount_of (weight_at out i))) xs (length-tab (length out) _ ∙ long)
      (λ i l.
      let k : i < length out = omega (arith, length-tab (length out) (λ i. amount_of (weight_at out i))) in
      tab-at (length out) _ 0 i k ∙ (weighs_at i (omega (arith, long))).amount)

  -- "out and in again gives the amounts"
  pub out_and_in : (amounts_refusal (weights_table xs ws) ys ≡ 0) × (amounts_table (weights_table xs ws) ys ≡ written 0 xs ys)
  unfolding amounts_table
  out_and_in = rw (out_is, accepted, same) (refl, refl)

-- the other way, of 32-bit floats
module _ (ws : List Float) (xs : List ℕ) (h : amounts_refusal ws xs ≡ 0) (x : length xs ≡ length ws) (vs : List Float) (v : length ws ≤ length vs)
    (f : all (length ws) (λ i. fits binary32 (weight_at ws i)) ≡ true) where
  abbrev back : List ℕ
  back = tab (length ws) (λ i. amount_of (weight_at ws i))

  back_is : amounts_table ws xs ≡ back
  unfolding amounts_of
  back_is = amounts_left ws xs h ∙ all_of (length ws) _ xs x

  amount-at : (i : ℕ) → i < length ws → at back i ≡ amount_of (weight_at ws i)
  amount-at i l = tab-at (length ws) (λ j. amount_of (weight_at ws j)) 0 i l

  back_long : length back ≡ length ws
  back_long = length-tab (length ws) (λ i. amount_of (weight_at ws i))

  back_accepted : weights_refusal back vs ≡ 0
  back_accepted =
      sym (weights_accepted back vs (omega (arith, back_long, v))
      (all_intro (length back) _
      (λ i l. let k : i < length ws = omega (arith, back_long) in rw (amount-at i k) (le-leb _ _ (amount-le (weight_at ws i) (unit_at ws xs h i k))))))

  same_weights : weights_of back ≡ tab (length ws) (λ i. positive_zero (weight_at ws i))
  unfolding weights_of
  same_weights =
      rw back_long
      (tab_ext (length ws) _ _
      (λ i l. ap weight_of (amount-at i l) ∙ back_again (weight_at ws i) (passes _ (all-at (length ws) _ f i l)) (unit_at ws xs h i l) (whole_at ws xs h i l)))

  -- in and out again gives the weights but for negative zero
  pub in_and_out : (weights_refusal (amounts_table ws xs) vs ≡ 0)
      × (weights_table (amounts_table ws xs) vs ≡ written 0 (tab (length ws) (λ i. positive_zero (weight_at ws i))) vs)
  unfolding weights_table
  in_and_out = rw (back_is, back_accepted, same_weights) (refl, refl)
