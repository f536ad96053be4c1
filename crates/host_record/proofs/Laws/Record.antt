-- The record's sections, one behind the other; its length; and the record by its entries.
use mathlib.Core.Path.{◌≡◌, ap, ◌∙◌}
use mathlib.Core.List.{List, ◌++◌, append_assoc}
use Prim.Native.Nat.{ℕ, ◌+◌, ◌-◌, ◌*◌, ◌≤◌, ◌<◌}
use native.Mathlib.Omega.{arith}
use lib.ListN.{length, length-append}
use lib.IntN.{ℤ}
use borrow.Rule.Slice.PartMut.{mid_of, put_mid}
use Rattle.arithmetic.specs.Table.{tab, written}
use Rattle.arithmetic.proofs.Laws.Table.{length-tab, length-rows, rows_ext}
use Rattle.little_endian.specs.LittleEndian.{byte_of, fields, signed}
use Rattle.little_endian.specs.Steps.Buffer.{placed}
use Rattle.little_endian.proofs.Laws.Placed.{placed_front, placed_then, placed_part}
use Rattle.host_record.specs.Record.{record_bytes, record_size}

-- ---- the sections, one behind the other

-- cost, moves and root
pub figures : (cost moves root : ℕ) (l m o q : List ℕ) → 13 ≤ length l → m ≡ placed 0 (tab 8 (byte_of cost)) l
    → o ≡ placed 8 (tab 4 (byte_of moves)) m → q ≡ placed 12 (tab 1 (byte_of root)) o
    → q ≡ placed 0 (tab 8 (byte_of cost) ++ tab 4 (byte_of moves) ++ tab 1 (byte_of root)) l
figures cost moves root l m o q h e f g =
    let a = length-tab 8 (byte_of cost) in
    let b = length-tab 4 (byte_of moves) in
    let ab = length-append (tab 8 (byte_of cost)) (tab 4 (byte_of moves)) in
    placed_then 0 12 _ _ l o q (omega arith) (omega arith) (placed_then 0 8 _ _ l m o (omega arith) (omega arith) e f) g

module _ (n cost moves root : ℕ) (parent : ℕ → ℕ) (u : ℕ → ℤ) (entry : ℕ → ℕ) (l : List ℕ) (room : record_size n ≤ length l) where
  abbrev head : List ℕ
  head = tab 8 (byte_of cost) ++ tab 4 (byte_of moves) ++ tab 1 (byte_of root)

  long_head : length head ≡ 13
  long_head =
      simp (length-append, length-tab 8 (byte_of cost), length-tab 4 (byte_of moves), length-tab 1 (byte_of root))

  -- the three sections behind them, each written in a part of the buffer
  pub sections : (m m₁ m₂ y₁ y₂ y₃ : List ℕ)
      → m ≡ placed 0 (tab 8 (byte_of cost) ++ tab 4 (byte_of moves) ++ tab 1 (byte_of root)) l
      → y₁ ≡ written 0 (fields 1 n parent) (mid_of 13 (length m - 13) m) → m₁ ≡ put_mid 13 (length m - 13) m y₁
      → y₂ ≡ written 0 (fields 4 n (λ y. signed (u y))) (mid_of (13 + n) (length m₁ - (13 + n)) m₁)
      → m₂ ≡ put_mid (13 + n) (length m₁ - (13 + n)) m₁ y₂
      → y₃ ≡ written 0 (fields 4 (n * n) entry) (mid_of (13 + 5 * n) (length m₂ - (13 + 5 * n)) m₂)
      → put_mid (13 + 5 * n) (length m₂ - (13 + 5 * n)) m₂ y₃ ≡ written 0 (record_bytes n cost moves root parent u entry) l
  unfolding record_bytes
  sections m m₁ m₂ y₁ y₂ y₃ e f₁ e₁ f₂ e₂ f₃ =
      let p = length-rows 1 n (λ i. byte_of (parent i)) in
      let q = length-rows 4 n (λ i. byte_of (signed (u i))) in
      let r = length-rows 4 (n * n) (λ i. byte_of (entry i)) in
      let hp = length-append head (fields 1 n parent) in
      let hpq = length-append (head ++ fields 1 n parent) (fields 4 n (λ y. signed (u y))) in
      placed_part (13 + 5 * n) (head ++ fields 1 n parent ++ fields 4 n (λ y. signed (u y))) (fields 4 (n * n) entry) l m₂ y₃
      (omega (arith, long_head)) (omega arith)
      (e₂ ∙ placed_part (13 + n) (head ++ fields 1 n parent) (fields 4 n (λ y. signed (u y))) l m₁ y₂ (omega (arith, long_head)) (omega arith)
      (e₁ ∙ placed_part 13 head (fields 1 n parent) l m y₁ long_head (omega arith) e f₁) f₂) f₃
      ∙ placed_front _ l ∙ simp append_assoc

-- ---- the record's length, and the record by its entries

-- what the record says of itself (nothing cites this): "It has 4n² + 5n + 13 bytes"
pub length_record : (n cost moves root : ℕ) (parent : ℕ → ℕ) (u : ℕ → ℤ) (entry : ℕ → ℕ)
    → length (record_bytes n cost moves root parent u entry) ≡ record_size n
unfolding record_bytes
length_record n cost moves root parent u entry =
    simp (length-append, length-tab, length-rows) (omega arith)

fields_ext : (k m : ℕ) (f g : ℕ → ℕ) → ((i : ℕ) → i < m → f i ≡ g i) → fields k m f ≡ fields k m g
fields_ext k m f g h = rows_ext k m (λ i. byte_of (f i)) (λ i. byte_of (g i)) (λ i j l _. ap (λ (x : ℕ). byte_of x j) (h i l))

pub record_ext : (n cost moves root : ℕ) (p q : ℕ → ℕ) (u v : ℕ → ℤ) (e f : ℕ → ℕ) → ((y : ℕ) → y < n → p y ≡ q y)
    → ((y : ℕ) → y < n → u y ≡ v y) → ((c : ℕ) → c < n * n → e c ≡ f c)
    → record_bytes n cost moves root p u e ≡ record_bytes n cost moves root q v f
unfolding record_bytes
record_ext n cost moves root p q u v e f hp hu he =
    rw (fields_ext 1 n p q hp, fields_ext 4 n (λ y. signed (u y)) (λ y. signed (v y)) (λ y l. ap signed (hu y l)), fields_ext 4 (n * n) e f he)
