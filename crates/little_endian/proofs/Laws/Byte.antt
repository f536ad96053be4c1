-- Numbers in bytes as code stores them, and tables and sections filled with them.
use mathlib.Core.Path.{◌≡◌, refl, sym, ◌∙◌}
use mathlib.Core.List.{List, [], ◌∷◌, ◌++◌, append_assoc}
use Prim.Native.Nat.{ℕ, zero, suc, ◌+◌, ◌-◌, ◌*◌, ◌/◌, ◌%◌, ◌≤◌, ◌<◌}
use native.Mathlib.Numerals.{add-one}
use native.Mathlib.Nat.{div-one}
use native.Mathlib.Omega.{arith}
use lib.ListN.{length, set, take}
use lib.Seq.{drop-drop, sets-eq}
use borrow.Rule.Slice.PartMut.{post_of}
use Rattle.std.specs.Int.{w64, byte_at, bytes_low_first, to_le_bytes}
use Rattle.std.proofs.lemmas.List.{length-take-le, get_or-take}
use Rattle.arithmetic.specs.Table.{at, tab, rows, appended, written}
use Rattle.arithmetic.proofs.Laws.Sum.{sum_same}
use Rattle.arithmetic.proofs.Laws.Table.{length-tab, tab_is, length-rows}
use Rattle.arithmetic.proofs.Laws.Appended.{length-appended}
use Rattle.little_endian.specs.LittleEndian.{byte_of, fields}
use Rattle.little_endian.specs.Steps.Buffer.{placed}
use Rattle.little_endian.proofs.Laws.Buffer.{Placing}
use Rattle.little_endian.proofs.Laws.Placed.{placed_one, placed_front, placing_none, placing_more, placing_end}

-- ---- a number's bytes
byte_is : (x i : ℕ) → byte_at i x ≡ byte_of x i
unfolding byte_of
byte_is x zero = rw (div-one x)
byte_is x (suc i) = refl

low_byte : (x i m k : ℕ) → k < m → at (bytes_low_first i m x) k ≡ byte_of x (i + k)
low_byte x i zero k h = absurd (omega arith)
low_byte x i (suc m) zero h = let e : i + 0 ≡ i = omega arith in rw e (byte_is x i)
low_byte x i (suc m) (suc k) h = let e : i + suc k ≡ suc i + k = omega arith in rw e (low_byte x (suc i) m k (omega arith))

low_bytes : (x n : ℕ) → n ≤ 8 → take n (to_le_bytes w64 x) ≡ tab n (byte_of x)
low_bytes x n h =
    sym (tab_is n (byte_of x) (take n (to_le_bytes w64 x)) (length-take-le n _ h)
    (λ i k.
    let e : 0 + i ≡ i = omega arith in
    sym (get_or-take n (to_le_bytes w64 x) i 0 k ∙ (rw e at (low_byte x 0 8 i (omega arith))))))

-- copied into the buffer
pub stored : (p n x : ℕ) (l y w : List ℕ) → n ≤ 8 → w ≡ to_le_bytes w64 x → y ≡ take n w
    → take p l ++ (y ++ post_of p (p + n - p) l) ≡ placed p (tab n (byte_of x)) l
unfolding placed
stored p n x l y w h d e =
    let k : p + n - p ≡ n = omega arith in
    rw (e, d, low_bytes x n h, length-tab n (byte_of x), k, drop-drop, append_assoc)

-- and two bytes, stored one by one
pub two_stores : (p x : ℕ) (l : List ℕ) → p + 2 ≤ length l
    → set (set l p (x % 256)) (p + 1) (x / 256 % 256) ≡ placed p (tab 2 (byte_of x)) l
unfolding tab byte_of placed
two_stores p x l h = let e : p + 1 ≡ suc p = omega arith in rw (div-one x, e) (sets-eq (x % 256 ∷ x / 256 % 256 ∷ []) l p h)

-- ---- a lent table that is filled from the front
module _ (f : ℕ → ℕ) {n : ℕ} {lent : List ℕ} where
  pub table_none : Placing 0 n (λ i. tab i f) lent 0 lent
  unfolding tab
  table_none = placing_none refl

  pub table_more : {i x : ℕ} {m : List ℕ} → Placing 0 n (λ i. tab i f) lent i m → i < n → n ≤ length lent → x ≡ f i
      → Placing 0 n (λ i. tab i f) lent (i + 1) (set m i x)
  unfolding tab
  table_more {i} {x} {m} w h room e =
      placing_more _ w h (rw (add-one i, e)) (rw (length-tab i f) (omega arith)) (omega arith) (placed_one i x m (omega (arith, w.long)))

  pub table_end : {i : ℕ} {out : List ℕ} → Placing 0 n (λ i. tab i f) lent i out → n ≤ i → out ≡ written 0 (tab n f) lent
  table_end w h = placing_end w h ∙ placed_front (tab n f) lent

-- ---- a section of n fields, k bytes each
module _ (k : ℕ) (f : ℕ → ℕ) {n : ℕ} {lent : List ℕ} where
  pub section_none : Placing 0 n (λ i. fields k i f) lent 0 lent
  unfolding rows
  section_none = placing_none refl

  pub section_more : {i p x : ℕ} {m o : List ℕ} → Placing 0 n (λ i. fields k i f) lent i m → i < n → k * i + k ≤ length lent → p ≡ k * i
      → x ≡ f i → o ≡ placed p (tab k (byte_of x)) m → Placing 0 n (λ i. fields k i f) lent (i + 1) o
  unfolding rows
  section_more {i} {p} {x} w h room q e s =
      let long = length-rows k i (λ j. byte_of (f j)) in
      placing_more _ w h (rw (add-one i, e)) (omega arith) (rw (length-tab k (byte_of x)) (omega arith)) s

  pub section-end : {i : ℕ} {out : List ℕ} → Placing 0 n (λ i. fields k i f) lent i out → n ≤ i → out ≡ written 0 (fields k n f) lent
  section-end w h = placing_end w h ∙ placed_front (fields k n f) lent

-- ---- pieces of z bytes each, one behind the other
pub length_pieces : (z : ℕ) (f : ℕ → List ℕ) → ((i : ℕ) → length (f i) ≡ z) → (i : ℕ) → length (appended i f) ≡ z * i
length_pieces z f each i = omega (arith, length-appended i f, sum_same i z (λ j. length (f j)) (λ j _. each j))

module _ (z : ℕ) (f : ℕ → List ℕ) (each : (i : ℕ) → length (f i) ≡ z) {n : ℕ} {lent : List ℕ} where
  pub pieces_none : Placing 0 n (λ i. appended i f) lent 0 lent
  unfolding appended
  pieces_none = placing_none refl

  pub pieces_more : {i p : ℕ} {m o : List ℕ} → Placing 0 n (λ i. appended i f) lent i m → i < n → z * i + z ≤ length lent → p ≡ z * i
      → o ≡ placed p (f i) m → Placing 0 n (λ i. appended i f) lent (i + 1) o
  unfolding appended
  pieces_more {i} w h room q s = placing_more (f i) w h (rw add-one) (omega (arith, length_pieces z f each i)) (omega (arith, each i)) s

  pub pieces_end : {i : ℕ} {out : List ℕ} → Placing 0 n (λ i. appended i f) lent i out → n ≤ i → out ≡ written 0 (appended n f) lent
  pieces_end w h = placing_end w h ∙ placed_front (appended n f) lent
