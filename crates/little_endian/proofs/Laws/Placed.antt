-- A text in a lent buffer: what is written behind it, in a part of the buffer, or piece by piece.
use mathlib.Core.Path.{◌≡◌, refl, ap, ◌∙◌}
use mathlib.Core.List.{List, [], ◌∷◌, ◌++◌, append_assoc, append-nil}
use Prim.Native.Nat.{ℕ, ◌+◌, ◌-◌, ◌≤◌, ◌<◌}
use native.Mathlib.Omega.{arith}
use native.Mathlib.Nat.{add-zero, add_assoc}
use lib.ListN.{length, take, drop, set, length-append, length-drop, take-append-drop, drop_of_length-le}
use lib.Seq.{length-take-le, take_at, drop_at, drop-drop, take_all, sets-eq}
use borrow.Rule.Slice.PartMut.{mid_of, put_mid}
use Rattle.arithmetic.specs.Table.{written}
use Rattle.little_endian.specs.Steps.Buffer.{placed}
use Rattle.little_endian.proofs.Laws.Buffer.{Placing}

front_length : (from : ℕ) (s l : List ℕ) → from ≤ length l → length (take from l ++ s) ≡ from + length s
front_length from s l h = rw (length-append, length-take-le from l h)

pub length-placed : (from : ℕ) (s l : List ℕ) → from + length s ≤ length l → length (placed from s l) ≡ length l
unfolding placed
length-placed from s l h =
    rw (length-append, front_length from s l (omega arith), length-drop) (omega arith)

pub placed_none : (from : ℕ) (l : List ℕ) → l ≡ placed from [] l
unfolding placed
placed_none from l = rw (append-nil, add-zero, take-append-drop)

pub placed_front : (s l : List ℕ) → placed 0 s l ≡ written 0 s l
unfolding placed
placed_front s l = let e : 0 + length s ≡ length s = omega arith in rw e

pub placed_one : (p x : ℕ) (l : List ℕ) → p < length l → set l p x ≡ placed p (x ∷ []) l
unfolding placed
placed_one p x l h = sets-eq (x ∷ []) l p (omega arith)

-- a text behind a text
pub placed_then : (from at : ℕ) (s t l m o : List ℕ) → from + length s ≤ length l → at ≡ from + length s
    → m ≡ placed from s l → o ≡ placed at t m → o ≡ placed from (s ++ t) l
unfolding placed
placed_then from at s t l m o h e f g =
    rw (
      g,
      f,
      e,
      take_at P rest (from + length s) p,
      ← drop-drop (length t) (from + length s) (P ++ rest),
      drop_at P rest (from + length s) p,
      drop-drop,
      length-append,
      ← add_assoc from (length s) (length t),
      append_assoc (take from l) s t,
    )
  where
    P : List ℕ
    P = take from l ++ s

    rest : List ℕ
    rest = drop (from + length s) l

    p : length P ≡ from + length s
    p = front_length from s l (omega arith)

-- a part of the buffer, from place a to its end, was lent to a writer of t; before that, s stood in front of it
pub placed_part : (a : ℕ) (s t l m o : List ℕ) → length s ≡ a → a + length t ≤ length l → m ≡ placed 0 s l
    → o ≡ written 0 t (mid_of a (length m - a) m) → put_mid a (length m - a) m o ≡ placed 0 (s ++ t) l
unfolding placed
placed_part a s t l m o p h e f = placed_then 0 a s t l m _ (omega arith) (omega arith) e back
  where
    back : put_mid a (length m - a) m o ≡ placed a t m
    back =
        let k : length (drop a m) ≤ length m - a = omega (arith, length-drop a m) in
        rw (f, take_all (length m - a) (drop a m) k, drop_of_length-le (drop a m) k, append-nil, drop-drop, append_assoc)

-- piece by piece
module _ {from n : ℕ} {text : ℕ → List ℕ} {lent : List ℕ} where
  pub placing_none : text 0 ≡ [] → Placing from n text lent 0 lent
  placing_none e = record { within = omega arith; long = refl; done = rw e (placed_none from lent) }

  pub placing_more : {i at : ℕ} {m o : List ℕ} (piece : List ℕ) → Placing from n text lent i m → i < n → text (i + 1) ≡ text i ++ piece
      → at ≡ from + length (text i) → at + length piece ≤ length lent → o ≡ placed at piece m → Placing from n text lent (i + 1) o
  placing_more {i} {at} {m} {o} piece w h e a room g =
      let is : o ≡ placed from (text (i + 1)) lent = rw e (placed_then from at (text i) piece lent m o (omega arith) a w.done g) in
      let k = ap length e in
      record {
        within = omega arith;
        long = ap length is ∙ length-placed from (text (i + 1)) lent (omega (arith, length-append (text i) piece));
        done = is;
      }

  pub placing_end : {i : ℕ} {out : List ℕ} → Placing from n text lent i out → n ≤ i → out ≡ placed from (text n) lent
  placing_end {i} w h = let e : i ≡ n = omega (arith, w.within) in rw e at w.done
