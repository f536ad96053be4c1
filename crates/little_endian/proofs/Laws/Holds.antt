-- What stands in a list of bytes: a text at a place, and the parts and numbers of that text.
use mathlib.Core.Path.{◌≡◌, refl, sym, ap, ◌∙◌}
use mathlib.Core.List.{List, ◌++◌}
use Prim.Native.Nat.{ℕ, zero, suc, ◌+◌, ◌*◌, ◌/◌, ◌%◌, ◌^◌, ◌<◌}
use native.Mathlib.Nat.{add_assoc, div-one, div-div-eq-div-mul, div-add-mod, mod-eq_of_lt}
use native.Mathlib.Omega.{arith}
use lib.ListN.{length, length-append, get_or-append}
use lib.Seq.{get_or-append-add}
use Rattle.arithmetic.specs.Sum.{sum}
use Rattle.arithmetic.specs.Table.{at, tab, appended}
use Rattle.arithmetic.proofs.Laws.Bools.{case≡}
use Rattle.arithmetic.proofs.Laws.Sum.{sum_same}
use Rattle.arithmetic.proofs.Laws.Table.{length-tab, tab-at}
use Rattle.arithmetic.proofs.Laws.Appended.{length-appended, rows-appended}
use Rattle.little_endian.specs.LittleEndian.{two, four, byte_of, fields}

-- s has the text w from place k on
pub record Holds (s : List ℕ) (k : ℕ) (w : List ℕ) : Type 0 where
  pub each : (i : ℕ) → i < length w → at s (k + i) ≡ at w i

pub holds_self : (s : List ℕ) → Holds s 0 s
holds_self s = record { each = λ i l. let e : 0 + i ≡ i = omega arith in rw e }

module _ {s : List ℕ} where
  pub holds_at : {k p : ℕ} {w : List ℕ} → k ≡ p → Holds s k w → Holds s p w
  holds_at e h = rw e at h

  -- the parts of a text
  module _ {k : ℕ} (v w : List ℕ) (h : Holds s k (v ++ w)) where
    pub holds_left : Holds s k v
    holds_left = record { each = λ i l. h.each i (omega (arith, length-append v w)) ∙ get_or-append v w 0 i l }

    pub holds_right : Holds s (k + length v) w
    holds_right = record {
      each = λ i l. rw (add_assoc k (length v) i) (h.each (length v + i) (omega (arith, length-append v w)) ∙ get_or-append-add v w i 0);
    }

  pub holds-appended : {k : ℕ} (c : ℕ) (f : ℕ → List ℕ) → Holds s k (appended c f) → (t : ℕ) → t < c
      → Holds s (k + sum t (λ i. length (f i))) (f t)
  unfolding appended
  holds-appended zero f h t l = absurd (omega arith)
  holds-appended {k} (suc c) f h t l =
      case≡ t c
      (λ e. rw (e, ← length-appended c f) (holds_right (appended c f) (f c) h))
      (λ d. holds-appended c f (holds_left (appended c f) (f c) h) t (omega arith))

  -- pieces of one length
  pub holds_piece : {k : ℕ} (c z : ℕ) (f : ℕ → List ℕ) → ((i : ℕ) → length (f i) ≡ z) → Holds s k (appended c f) → (t : ℕ) → t < c
      → Holds s (k + z * t) (f t)
  holds_piece {k} c z f e h t l =
      holds_at (omega (arith, sum_same t z (λ i. length (f i)) (λ i _. e i))) (holds-appended c f h t l)

  pub holds_field : {k : ℕ} (z c : ℕ) (f : ℕ → ℕ) → Holds s k (fields z c f) → (t : ℕ) → t < c → Holds s (k + z * t) (tab z (byte_of (f t)))
  holds_field z c f h t l =
      holds_piece c z (λ i. tab z (byte_of (f i))) (λ i. length-tab z (byte_of (f i))) (rw (rows-appended z c (λ i. byte_of (f i))) at h) t l

  -- the numbers in a text
  module _ {k : ℕ} (z x : ℕ) (h : Holds s k (tab z (byte_of x))) where
    byte_at : (i d : ℕ) → i < z → 256 ^ i ≡ d → at s (k + i) ≡ x / d % 256
    unfolding byte_of
    byte_at i d l e = h.each i (omega (arith, length-tab z (byte_of x))) ∙ tab-at z (byte_of x) 0 i l ∙ rw e

    low_byte : 0 < z → at s k ≡ x % 256
    low_byte l =
        let e : k + 0 ≡ k = omega arith in
        let b = byte_at 0 1 l refl in
        ap (λ (i : ℕ). at s i) (sym e) ∙ b ∙ ap (λ (y : ℕ). y % 256) (div-one x)

  pub one_held : {k : ℕ} (x : ℕ) → Holds s k (tab 1 (byte_of x)) → x < 256 → at s k ≡ x
  one_held x h l = omega (arith, low_byte 1 x h (omega arith))

  pub two_held : {k : ℕ} (x : ℕ) → Holds s k (tab 2 (byte_of x)) → x < 65536 → two s k ≡ x
  unfolding two
  two_held x h l = omega (arith, low_byte 2 x h (omega arith), byte_at 2 x h 1 256 (omega arith) refl)

  pub four_held : {k : ℕ} (x : ℕ) → Holds s k (tab 4 (byte_of x)) → x < 4294967296 → four s k ≡ x
  unfolding two
  four_held {k} x h l =
      let e : k + 2 + 1 ≡ k + 3 = omega arith in
      let second : x / 256 ≡ 256 * (x / 65536) + x / 256 % 256 = omega (arith, div-div-eq-div-mul x 256 256, div-add-mod (x / 256) 256) in
      let third : x / 65536 ≡ 256 * (x / 16777216) + x / 65536 % 256 = omega (arith, div-div-eq-div-mul x 65536 256, div-add-mod (x / 65536) 256) in
      let last : x / 16777216 % 256 ≡ x / 16777216 = mod-eq_of_lt (omega arith) in
      rw e
      (omega (
        arith,
        low_byte 4 x h (omega arith),
        byte_at 4 x h 1 256 (omega arith) refl,
        byte_at 4 x h 2 65536 (omega arith) refl,
        byte_at 4 x h 3 16777216 (omega arith) refl,
      ))
