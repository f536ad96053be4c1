-- The two calls on lists: what has passed all checks, and what is left after a refusal and after an answer.
use Rattle.std.proofs.Common.{◌≡◌, ℕ, ◌≤◌, true, List, length, refl, ◌∙◌, le-leb, leb-true}
use lib.Ieee.{Float}
use Rattle.arithmetic.specs.Table.{written}
use Rattle.arithmetic.proofs.Laws.Refusal.{test_of, numbered, passes, none_left, every_holds}
use Rattle.arithmetic.proofs.Laws.Table.{written_refused}
use Rattle.skin_weights.specs.Lists.{weights_ok, grains_ok, amounts_ok, amounts_refusal, weights_refusal, amounts_of, weights_of, amounts_table, weights_table}

-- weights to amounts
module _ (ws : List Float) (xs : List ℕ) where
  pub amounts_accepted : length ws ≤ length xs → weights_ok ws ≡ true → grains_ok ws ≡ true → 0 ≡ amounts_refusal ws xs
  unfolding amounts_refusal
  amounts_accepted l u g = passes 0 2 _ _ (le-leb _ _ l) (passes 0 15 _ _ u (passes 0 16 _ _ g none_left))

  pub amounts_passed : amounts_refusal ws xs ≡ 0 → (length ws ≤ length xs) × (weights_ok ws ≡ true) × (grains_ok ws ≡ true)
  unfolding amounts_refusal test_of numbered
  amounts_passed h = (leb-true _ _ (every_holds _ refl h 2), every_holds _ refl h 15, every_holds _ refl h 16)

  pub amounts_refused : {k : ℕ} → k ≡ amounts_refusal ws xs → (k ≡ 0 → ⊥) → xs ≡ amounts_table ws xs
  unfolding amounts_table
  amounts_refused e d = written_refused (amounts_refusal ws xs) (amounts_of ws) xs (λ z. d (e ∙ z))

  pub amounts_filled : {new : List ℕ} → amounts_refusal ws xs ≡ 0 → new ≡ written 0 (amounts_of ws) xs → new ≡ amounts_table ws xs
  unfolding amounts_table
  amounts_filled h e = rw h e

-- and back
module _ (xs : List ℕ) (ws : List Float) where
  pub weights_accepted : length xs ≤ length ws → amounts_ok xs ≡ true → 0 ≡ weights_refusal xs ws
  unfolding weights_refusal
  weights_accepted l u = passes 0 2 _ _ (le-leb _ _ l) (passes 0 15 _ _ u none_left)

  pub weights_passed : weights_refusal xs ws ≡ 0 → (length xs ≤ length ws) × (amounts_ok xs ≡ true)
  unfolding weights_refusal test_of numbered
  weights_passed h = (leb-true _ _ (every_holds _ refl h 2), every_holds _ refl h 15)

  pub weights_refused : {k : ℕ} → k ≡ weights_refusal xs ws → (k ≡ 0 → ⊥) → ws ≡ weights_table xs ws
  unfolding weights_table
  weights_refused e d = written_refused (weights_refusal xs ws) (weights_of xs) ws (λ z. d (e ∙ z))

  pub weights_filled : {new : List Float} → weights_refusal xs ws ≡ 0 → new ≡ written 0 (weights_of xs) ws → new ≡ weights_table xs ws
  unfolding weights_table
  weights_filled h e = rw h e
