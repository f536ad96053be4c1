-- Sums by words: what is raised and lowered for the vertices of words, and the words of a tree's vertices.
use mathlib.Core.Path.{◌≡◌, ap, ◌∙◌}
use mathlib.Core.Bool.{Bool, true, false}
use mathlib.Core.List.{List}
use Prim.Native.Nat.{ℕ, ◌+◌, ◌^◌, ◌≤◌, ◌<◌}
use native.Mathlib.Nat.{le_antisymm}
use native.Mathlib.Omega.{arith}
use lib.Dec.{ltb}
use lib.ListN.{length}
use borrow.Author.Tests.{lt-ltb, le-ltb}
use Rattle.arithmetic.specs.Sum.{pick, sum}
use Rattle.arithmetic.specs.Table.{at}
use Rattle.arithmetic.specs.Mask.{mask}
use Rattle.arithmetic.specs.Steps.Mask.{bit}
use Rattle.arithmetic.specs.Steps.Fill.{Filled}
use Rattle.arithmetic.proofs.Laws.Bools.{case, case<}
use Rattle.arithmetic.proofs.Laws.Mask.{bit_mask, mask_bits}
use Rattle.arithmetic.proofs.Laws.Sum.{pick-le, sum-nil, sum_step, sum_ext, sum-le, sum_ge, sum_front}
use Rattle.vertex_set.specs.Steps.Sets.{VertexSets}
use Rattle.vertex_set.specs.Steps.Shift.{shifted, CanShiftWord, WordShifted}
use Rattle.rooted_tree.specs.Chain.{below}
use Rattle.rooted_tree.specs.Steps.Rooted.{path_sum}
use Rattle.subtree_sums.specs.Steps.Sums.{holder_sum, Slopes, Heights}

-- ---- the words that hold a vertex, one after another
module _ (words v : ℕ → ℕ) (y : ℕ) where
  abbrev pub holders_to : ℕ → ℕ
  holders_to k = holder_sum k words v y

  pub holders_most : (n : ℕ) → holders_to n ≤ sum n v
  holders_most n = sum-le n _ v (λ x h. pick-le (bit (words x) y) (v x))

  holders_step : (k : ℕ) → holders_to (k + 1) ≡ holders_to k + pick (bit (words k) y) (v k)
  holders_step k = sum_step k _

  -- the first of them are no more than all values
  holders_fit : (k n : ℕ) → k < n → holders_to (k + 1) ≤ sum n v
  holders_fit k n l = omega (arith, holders_most (k + 1), sum_front (k + 1) n v (omega arith))

pub holders_ext : (n : ℕ) (words u v : ℕ → ℕ) (y : ℕ) → ((x : ℕ) → x < n → u x ≡ v x) → holder_sum n words u y ≡ holder_sum n words v y
holders_ext n words u v y h = sum_ext n _ _ (λ x l. ap (pick (bit (words x) y)) (h x l))

-- the words of the vertices before k have been raised and lowered
pub record Tilting (n ground : ℕ) (words u v : ℕ → ℕ) (k : ℕ) (heights : List ℕ) : Type 0 where
  pub low : k ≤ n
  pub size : length heights ≡ 64
  pub each : (y : ℕ) → y < n → at heights y + holders_to words v y k ≡ ground + holders_to words u y k

pub tilting_none : {n ground : ℕ} (words u v : ℕ → ℕ) → n ≤ 64 → {heights : List ℕ} → length heights ≡ 64
    → ((y : ℕ) → y < 64 → at heights y ≡ ground) → Tilting n ground words u v 0 heights
tilting_none words u v few s level = record {
  low = omega arith;
  size = s;
  each = λ y l. omega (arith, level y (omega arith), sum-nil (λ x. pick (bit (words x) y) (u x)), sum-nil (λ x. pick (bit (words x) y) (v x)));
}

pub slope_fits : {n ground : ℕ} {rising falling : List ℕ} → Slopes n ground rising falling → (x : ℕ) → x < n → at rising x + at falling x < 2 ^ 32
slope_fits {n} {rising = rising} {falling = falling} slopes x l =
    let up = sum_ge n x (at rising) l in
    let down = sum_ge n x (at falling) l in
    case< 0 (at rising x)
    (λ p. omega (arith, up, slopes.high, slopes.apart x l p))
    (λ p. omega (arith, down, slopes.high, slopes.deep))

module _ {n ground : ℕ} {words : ℕ → ℕ} {rising falling : List ℕ} (slopes : Slopes n ground rising falling) {k : ℕ} {heights : List ℕ}
    (w : Tilting n ground words (at rising) (at falling) k heights) where
  pub tilting_end : n ≤ k → Heights n ground words (at rising) (at falling) (at heights)
  tilting_end h y l = rw (le_antisymm w.low h) at (w.each y l)

  module _ (l : k < n) where
    -- what becomes of y, where the word of k holds it and where it does not
    at_y : (y : ℕ) → (b : Bool) → bit (words k) y ≡ b
        → (holders_to words (at rising) y (k + 1) ≡ holders_to words (at rising) y k + pick b (at rising k))
        × (holders_to words (at falling) y (k + 1) ≡ holders_to words (at falling) y k + pick b (at falling k))
    at_y y b e = (rw (← e) (holders_step words (at rising) y k), rw (← e) (holders_step words (at falling) y k))

    pub tilting_room : n ≤ 64 → words k ≡ mask n (bit (words k)) → CanShiftWord n (words k) (ltb 0 (at rising k)) (at rising k + at falling k) heights
    tilting_room few set = record {
      few = few;
      size = w.size;
      set = set;
      room = λ y h b.
          let s = at_y y true b in
          let up = holders_fit words (at rising) y k n l in
          let down = holders_fit words (at falling) y k n l in
          case< 0 (at rising k)
          (λ p. rw (lt-ltb 0 (at rising k) p) (omega (arith, s, up, w.each y h, slopes.high, slopes.apart k l p)))
          (λ p. rw (le-ltb 0 (at rising k) p) (omega (arith, s, down, w.each y h, slopes.deep)));
    }

    pub tilting_more : {new : List ℕ} → WordShifted (words k) (ltb 0 (at rising k)) (at rising k + at falling k) heights new n
        → Tilting n ground words (at rising) (at falling) (k + 1) new
    tilting_more {new} u = record {
      low = omega arith;
      size = u.size ∙ w.size;
      each = λ y h.
          case (bit (words k) y)
          (λ b. held y h b (rw b at (u.done y h)))
          (λ b. let s = at_y y false b in omega (arith, s, w.each y h, rw b at (u.done y h)));
    }
      where
        held : (y : ℕ) → y < n → bit (words k) y ≡ true → at new y ≡ shifted (ltb 0 (at rising k)) (at rising k + at falling k) (at heights y)
            → at new y + holders_to words (at falling) y (k + 1) ≡ ground + holders_to words (at rising) y (k + 1)
        held y h b e =
            let s = at_y y true b in
            case< 0 (at rising k)
            (λ p. omega (arith, s, w.each y h, slopes.apart k l p, rw (lt-ltb 0 (at rising k) p) at e))
            (λ p. omega (arith, s, w.each y h, slopes.deep, holders_fit words (at falling) y k n l, rw (le-ltb 0 (at rising k) p) at e))

-- ---- the words of a tree's vertices
module _ (n : ℕ) (p : ℕ → ℕ) {old words : List ℕ} (are : Filled n (λ x. mask n (λ y. below p n y x)) old words) where
  pub words_sets : n ≤ length old → VertexSets n words
  words_sets long = record { long = omega (arith, are.size); each = λ x l. mask_bits n (λ y. below p n y x) (at words x) (are.each x l) }

  pub words_above : (v : ℕ → ℕ) (y : ℕ) → y < n → holder_sum n (at words) v y ≡ path_sum p n v y
  words_above v y k = sum_ext n _ _ (λ x l. rw (are.each x l, bit_mask n (λ y. below p n y x) y k))
