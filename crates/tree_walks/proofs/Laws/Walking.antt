-- One walk up from a vertex y through a table of words, and the walks from all vertices, one after another.
use mathlib.Core.Path.{◌≡◌, refl, sym, ap, ◌∙◌}
use mathlib.Core.Bool.{cond}
use mathlib.Core.List.{List}
use Prim.Native.Nat.{ℕ, ◌+◌, ◌^◌, ◌≤◌, ◌<◌}
use native.Mathlib.Nat.{le_antisymm}
use native.Mathlib.Omega.{arith}
use lib.Bits.{bit_or}
use lib.ListN.{length, set, length-set}
use lib.Seq.{get_or-set_same, get_or-set_other}
use borrow.Author.Tests.{ne_eqb}
use Rattle.arithmetic.specs.Table.{at}
use Rattle.arithmetic.specs.Mask.{mask}
use Rattle.arithmetic.specs.Steps.Fill.{Filled}
use Rattle.arithmetic.proofs.Laws.Bools.{case, case≡}
use Rattle.arithmetic.proofs.Laws.Mask.{mask_lt}
use Rattle.vertex_set.proofs.Laws.Words.{or_above, mask_step}
use Rattle.rooted_tree.specs.Chain.{below}
use Rattle.rooted_tree.specs.Steps.Rooted.{Rooted}
use Rattle.rooted_tree.proofs.Laws.Rooted.{at-step, at_root, refl_b, parent_out}
use Rattle.tree_walks.specs.MarkAncestors.{marked_word}
use Rattle.tree_walks.specs.Steps.Walk.{WalkedUp}

-- what is left is to walk up from z
pub record Walking (n : ℕ) (p : ℕ → ℕ) (y : ℕ) (old new : List ℕ) (z : ℕ) : Type 0 where
  pub size : length new ≡ length old
  pub room : n ≤ length old
  pub low : z < n
  pub each : (x : ℕ) → cond (below p n z x) (bit_or (at new x) (2 ^ y)) (at new x) ≡ marked_word n p y old x

pub walking_none : {n y : ℕ} (p : ℕ → ℕ) (l : List ℕ) → n ≤ length l → y < n → Walking n p y l l y
walking_none p l h k = record { size = refl; room = h; low = k; each = λ x. refl }

module _ {n r : ℕ} {p : ℕ → ℕ} (t : Rooted n r p) {y : ℕ} {old new : List ℕ} {z : ℕ} (w : Walking n p y old new z) where
  -- z comes next
  here : at (set new z (bit_or (at new z) (2 ^ y))) z ≡ marked_word n p y old z
  here = get_or-set_same new z _ 0 (omega (arith, w.low, w.room, w.size)) ∙ rw (refl_b t z w.low) at (w.each z)

  other : (x : ℕ) → (x ≡ z → ⊥) → at (set new z (bit_or (at new z) (2 ^ y))) x ≡ at new x
  other x d = get_or-set_other new z x _ 0 d

  pub walking_more : (z ≡ r → ⊥) → Walking n p y old (set new z (bit_or (at new z) (2 ^ y))) (p z)
  walking_more g = record {
    size = length-set new z _ ∙ w.size;
    room = w.room;
    low = t.into z w.low;
    each = λ x. case≡ x z
        (λ e. rw (e, parent_out t z w.low g) here)
        (λ d. rw (other x d) (rw (at-step t z x w.low, ne_eqb z x (λ e. d (sym e))) at (w.each x)));
  }

  pub walking_end : z ≡ r → WalkedUp n p y old (set new z (bit_or (at new z) (2 ^ y)))
  walking_end g = record {
    size = length-set new z _ ∙ w.size;
    each = λ x. case≡ x z
        (λ e. rw e here)
        (λ d. rw (other x d) (rw (g, at_root t x, ne_eqb r x (λ e. d (sym (g ∙ e)))) at (w.each x)));
  }

-- ---- the walks from the vertices before k have set their bits
module _ (n : ℕ) (p : ℕ → ℕ) where
  abbrev pub masks_to : ℕ → ℕ → ℕ
  masks_to k x = mask k (λ y. below p n y x)

  pub masks_none : {old new : List ℕ} → Filled n (λ _. 0) old new → Filled n (masks_to 0) old new
  unfolding mask
  masks_none w = w

  masks_step : (k x : ℕ) → cond (below p n k x) (bit_or (masks_to k x) (2 ^ k)) (masks_to k x) ≡ masks_to (k + 1) x
  masks_step k x =
      mask_step k (λ y. below p n y x) (masks_to k x) _ refl (case (below p n k x)
      (λ e. rw e (or_above (masks_to k x) k (mask_lt k _)))
      (λ e. rw e (omega arith)))

  pub masks_more : (k : ℕ) {old mid new : List ℕ} → Filled n (masks_to k) old mid → WalkedUp n p k mid new → Filled n (masks_to (k + 1)) old new
  masks_more k w u = record {
    size = u.size ∙ w.size;
    each = λ x l. u.each x ∙ ap (λ (v : ℕ). cond (below p n k x) (bit_or v (2 ^ k)) v) (w.each x l) ∙ masks_step k x;
  }

  pub masks_end : (k : ℕ) {old new : List ℕ} → k ≤ n → n ≤ k → Filled n (masks_to k) old new → Filled n (masks_to n) old new
  masks_end k h l w = rw (le_antisymm h l) at w
