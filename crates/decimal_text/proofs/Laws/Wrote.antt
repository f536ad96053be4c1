-- One text behind another in a lent buffer; a byte, and a word.
use mathlib.Core.Path.{◌≡◌, refl, ap, ◌∙◌}
use mathlib.Core.List.{List, [], ◌∷◌, ◌++◌, append_assoc}
use Prim.Native.Nat.{ℕ, ◌+◌, ◌-◌, ◌≤◌, ◌<◌}
use native.Mathlib.Omega.{arith}
use lib.ListN.{length, set, length-append}
use lib.Seq.{drop-drop}
use borrow.Rule.Slice.PartMut.{put_mid}
use Rattle.arithmetic.specs.Table.{written}
use Rattle.little_endian.specs.Steps.Buffer.{placed}
use Rattle.little_endian.proofs.Laws.Placed.{length-placed, placed_none, placed_one, placed_front, placed_then}
use Rattle.decimal_text.specs.Steps.Wrote.{Wrote}

pub wrote_none : (from : ℕ) (l : List ℕ) → Wrote from [] l l from
wrote_none from l = record { next_is = omega arith; out_is = placed_none from l }

pub wrote_length : {from at : ℕ} {s l m : List ℕ} → at ≤ length l → Wrote from s l m at → length m ≡ length l
wrote_length {from} {at} {s} {l} {m} h v = ap length v.out_is ∙ length-placed from s l (omega (arith, v.next_is))

pub wrote_then : {from at r : ℕ} {s t l m o : List ℕ} → at ≤ length l → Wrote from s l m at → Wrote at t m o r → Wrote from (s ++ t) l o r
wrote_then {from} {at} {r} {s} {t} {l} {m} {o} h v w =
    record {
      next_is = omega (arith, v.next_is, w.next_is, length-append s t);
      out_is = placed_then from at s t l m o (omega (arith, v.next_is)) v.next_is v.out_is w.out_is;
    }

pub wrote_same : {from r : ℕ} {s t l o : List ℕ} → s ≡ t → Wrote from s l o r → Wrote from t l o r
wrote_same e w = rw e at w

-- where the two ways of a branch have met
pub wrote_met : {from r r' : ℕ} {s l o o' : List ℕ} → o' ≡ o → r' ≡ r → Wrote from s l o r → Wrote from s l o' r'
wrote_met e f w = record { next_is = f ∙ w.next_is; out_is = e ∙ w.out_is }

-- from the front
pub wrote_front : {r : ℕ} {s l o : List ℕ} → Wrote 0 s l o r → (o ≡ written 0 s l) × (r ≡ length s)
wrote_front {r} {s} {l} {o} w = (w.out_is ∙ placed_front s l, omega (arith, w.next_is))

-- ---- a byte and a word
pub byte_wrote : (b from : ℕ) (l : List ℕ) → from < length l → Wrote from (b ∷ []) l (set l from b) (from + 1)
byte_wrote b from l h = record { next_is = refl; out_is = placed_one from b l h }

-- a word was copied into its part of the buffer
pub word_wrote : (from : ℕ) (s l : List ℕ) → Wrote from s l (put_mid from (from + length s - from) l s) (from + length s)
unfolding placed
word_wrote from s l =
    let e : from + length s - from ≡ length s = omega arith in
    record { next_is = refl; out_is = rw (e, drop-drop, append_assoc) }
