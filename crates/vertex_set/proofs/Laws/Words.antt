-- Words of vertices: two words joined, a vertex put in, and a word that is built from its lowest bit.
use mathlib.Core.Path.{◌≡◌, refl, sym, ap, ◌∙◌}
use mathlib.Core.Bool.{Bool, true, false, not, ◌&&◌, ◌||◌}
use Prim.Native.Nat.{ℕ, zero, suc, ◌+◌, ◌*◌, ◌/◌, ◌%◌, ◌<◌, ◌^◌}
use native.Mathlib.Nat.{one-mul, mod-lt}
use native.Mathlib.Numerals.{add-one}
use native.Mathlib.Omega.{arith}
use lib.Bits.{bit_and, bit_or, and_block, or_block, or_shr, or_mod, or_shifted_r}
use lib.Dec.{eqb, lit<}
use Rattle.arithmetic.specs.Sum.{pick}
use Rattle.arithmetic.specs.Mask.{mask}
use Rattle.arithmetic.specs.Steps.Mask.{bit}
use Rattle.arithmetic.proofs.Laws.Bools.{case, eqb_self}
use Rattle.arithmetic.proofs.Laws.Mask.{mask_lt, mask-take, bit_mask}

bit_first : (m : ℕ) (t : Bool) (w : ℕ) → w + pick t (2 ^ m) ≡ pick t 1 * 2 ^ m + w
bit_first m true w = omega arith
bit_first m false w = omega arith

-- an operation on words that works on each bit apart, by a test of two bits
module _ (op : ℕ → ℕ → ℕ) (test : Bool → Bool → Bool) (none : op 0 0 ≡ 0)
    (one : (s t : Bool) → op (pick s 1) (pick t 1) ≡ pick (test s t) 1)
    (block : (k a b r s : ℕ) → r < 2 ^ k → s < 2 ^ k → op (a * 2 ^ k + r) (b * 2 ^ k + s) ≡ op a b * 2 ^ k + op r s) where
  op_masks : (n : ℕ) (f g : ℕ → Bool) → op (mask n f) (mask n g) ≡ mask n (λ x. test (f x) (g x))
  unfolding mask
  op_masks zero f g = none
  op_masks (suc m) f g =
      rw (bit_first m (f m) (mask m f), bit_first m (g m) (mask m g))
      (block m (pick (f m) 1) (pick (g m) 1) _ _ (mask_lt m f) (mask_lt m g)
      ∙ rw (one (f m) (g m), op_masks m f g) (sym (bit_first m (test (f m) (g m)) _)))

pub and_masks : (n : ℕ) (f g : ℕ → Bool) → bit_and (mask n f) (mask n g) ≡ mask n (λ x. f x && g x)
and_masks = op_masks bit_and ◌&&◌ refl digits and_block
  where
    digits : (s t : Bool) → bit_and (pick s 1) (pick t 1) ≡ pick (s && t) 1
    digits true true = refl
    digits true false = refl
    digits false t = refl

pub or_masks : (n : ℕ) (f g : ℕ → Bool) → bit_or (mask n f) (mask n g) ≡ mask n (λ x. f x || g x)
or_masks = op_masks bit_or ◌||◌ refl digits or_block
  where
    digits : (s t : Bool) → bit_or (pick s 1) (pick t 1) ≡ pick (s || t) 1
    digits true true = refl
    digits true false = refl
    digits false t = refl

pub mask_empty : (n : ℕ) (f : ℕ → Bool) → ((x : ℕ) → x < n → f x ≡ false) → mask n f ≡ 0
unfolding mask
mask_empty zero f h = refl
mask_empty (suc m) f h = rw (mask_empty m f (λ x l. h x (omega arith)), h m (omega arith))

-- the word of one vertex
pub mask_one : (n y : ℕ) → y < n → mask n (λ z. eqb z y) ≡ 2 ^ y
mask_one n y l =
    let none = mask_empty n (λ z. eqb z y && not (eqb z y)) (λ z _. case (eqb z y) (λ e. rw e) (λ e. rw e)) in
    omega (arith, mask-take n (λ z. eqb z y) y l (eqb_self y))

-- a vertex put into a word, whether or not it is there
pub or_vertex : (n : ℕ) (f : ℕ → Bool) (y : ℕ) → y < n → bit_or (mask n f) (2 ^ y) ≡ mask n (λ z. f z || eqb z y)
or_vertex n f y l = ap (bit_or (mask n f)) (sym (mask_one n y l)) ∙ or_masks n f (λ z. eqb z y)

-- the same, bit by bit, in any word
pub or-bit : (n w y z : ℕ) → y < n → z < n → bit (bit_or w (2 ^ y)) z ≡ bit w z || eqb z y
or-bit n w y z l k =
    ap (λ (x : ℕ). eqb (x % 2) 1) (or_shr w (2 ^ y) z) ∙ ap (λ (x : ℕ). eqb x 1) (or_mod (w / 2 ^ z) (2 ^ y / 2 ^ z) 1)
    ∙ digit (w / 2 ^ z) (2 ^ y / 2 ^ z)
    ∙ ap (λ (b : Bool). bit w z || b) (ap (λ (x : ℕ). bit x z) (sym (mask_one n y l)) ∙ bit_mask n (λ z. eqb z y) z k)
  where
    low : (r s : ℕ) → r < 2 → s < 2 → eqb (bit_or r s) 1 ≡ eqb r 1 || eqb s 1
    low zero s h i = refl
    low (suc zero) zero h i = refl
    low (suc zero) (suc zero) h i = refl
    low (suc zero) (suc (suc s)) h i = absurd (omega arith)
    low (suc (suc r)) s h i = absurd (omega arith)

    digit : (u v : ℕ) → eqb (bit_or (u % 2) (v % 2)) 1 ≡ eqb (u % 2) 1 || eqb (v % 2) 1
    digit u v = low (u % 2) (v % 2) (mod-lt u (lit< tt)) (mod-lt v (lit< tt))

-- a vertex above all those of w
pub or_above : (w x : ℕ) → w < 2 ^ x → bit_or w (2 ^ x) ≡ w + 2 ^ x
or_above w x h = ap (bit_or w) (sym (one-mul (2 ^ x))) ∙ or_shifted_r 1 x w h ∙ omega arith

-- a mask that is built from the lowest bit
pub mask_none : (f : ℕ → Bool) → 0 ≡ mask 0 f
unfolding mask
mask_none f = refl

pub mask_under : (m : ℕ) (f : ℕ → Bool) (w : ℕ) → w ≡ mask m f → w < 2 ^ m
mask_under m f w e = rw e (mask_lt m f)

pub mask_step : (m : ℕ) (f : ℕ → Bool) (w v : ℕ) → w ≡ mask m f → v ≡ w + pick (f m) (2 ^ m) → v ≡ mask (m + 1) f
unfolding mask
mask_step m f w v e g = rw (add-one, ← e) g
