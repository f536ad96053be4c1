-- An image as code writes it: the header's numbers and pairs, and the sections behind them, each in a part of the buffer.
use mathlib.Core.Path.{◌≡◌, ◌∙◌}
use mathlib.Core.List.{List, ◌++◌, append_assoc, append-nil}
use Prim.Native.Nat.{ℕ, suc, ◌+◌, ◌-◌, ◌*◌, ◌≤◌, ◌<◌}
use native.Mathlib.Omega.{arith}
use lib.ListN.{length, length-append}
use borrow.Rule.Slice.PartMut.{mid_of, put_mid}
use Rattle.arithmetic.specs.Table.{tab, appended, written}
use Rattle.arithmetic.proofs.Laws.Sum.{sum_step, sum_front}
use Rattle.arithmetic.proofs.Laws.Table.{length-tab}
use Rattle.arithmetic.proofs.Laws.Appended.{length-appended}
use Rattle.little_endian.specs.LittleEndian.{byte_of}
use Rattle.little_endian.specs.Steps.Buffer.{placed}
use Rattle.little_endian.proofs.Laws.Byte.{length_pieces}
use Rattle.little_endian.proofs.Laws.Placed.{placed_then, placed_part, placed_front}
use Rattle.packed_image.specs.Packed.{start, pair, header, packed}
use Rattle.packed_image.proofs.Laws.Packed.{length-pair, length-header, length-packed}

pub pair-placed : (p x y : ℕ) (l m o : List ℕ) → p + 8 ≤ length l → m ≡ placed p (tab 4 (byte_of x)) l → o ≡ placed (p + 4) (tab 4 (byte_of y)) m
    → o ≡ placed p (tab 4 (byte_of x) ++ tab 4 (byte_of y)) l
pair-placed p x y l m o h e f =
    let k = length-tab 4 (byte_of x) in
    placed_then p (p + 4) _ _ l m o (omega arith) (omega arith) e f

-- ---- the header
pub header-placed : (n form m c : ℕ) (long : ℕ → ℕ) (l l₁ l₂ l₃ y : List ℕ) → 4 + 8 * c ≤ length l
    → l₁ ≡ placed 0 (tab 1 (byte_of n)) l → l₂ ≡ placed 1 (tab 1 (byte_of form)) l₁ → l₃ ≡ placed 2 (tab 2 (byte_of m)) l₂
    → y ≡ written 0 (appended c (pair c long)) (mid_of 4 (length l₃ - 4) l₃)
    → put_mid 4 (length l₃ - 4) l₃ y ≡ placed 0 (header n form m c long) l
unfolding header
header-placed n form m c long l l₁ l₂ l₃ y room e₁ e₂ e₃ f =
    let N = tab 1 (byte_of n) in
    let F = tab 1 (byte_of form) in
    let M = tab 2 (byte_of m) in
    let kn = length-tab 1 (byte_of n) in
    let kf = length-tab 1 (byte_of form) in
    let km = length-tab 2 (byte_of m) in
    let nf = length-append N F in
    let nfm = length-append (N ++ F) M in
    let ps = length_pieces 8 (pair c long) (length-pair c long) c in
    placed_part 4 (N ++ F ++ M) (appended c (pair c long)) l l₃ y (omega arith) (omega arith)
    (placed_then 0 2 (N ++ F) M l l₂ l₃ (omega arith) (omega arith) (placed_then 0 1 N F l l₁ l₂ (omega arith) (omega arith) e₁ e₂) e₃) f
    ∙ simp append_assoc

-- ---- the sections behind it
module _ (n form m c : ℕ) (f : ℕ → List ℕ) (l : List ℕ) (room : length (packed n form m c f) ≤ length l) where
  abbrev long : ℕ → ℕ
  long t = length (f t)

  -- the header and t sections are written
  abbrev pub Packing : ℕ → List ℕ → Type 0
  Packing t o = o ≡ placed 0 (header n form m c long ++ appended t f) l

  pub packing_none : (o : List ℕ) → o ≡ placed 0 (header n form m c long) l → Packing 0 o
  unfolding appended
  packing_none o e = rw append-nil e

  -- one section more, in the part of the buffer where it starts
  pub packing_more : (t a : ℕ) (o y : List ℕ) → t < c → a ≡ start c long t → Packing t o → y ≡ written 0 (f t) (mid_of a (length o - a) o)
      → Packing (suc t) (put_mid a (length o - a) o y)
  unfolding appended
  packing_more t a o y h e p q =
      let H = header n form m c long in
      placed_part a (H ++ appended t f) (f t) l o y
      (omega (arith, length-append H (appended t f), length-header n form m c long, length-appended t f))
      (omega (arith, length-packed n form m c f, sum_front (t + 1) c long (omega arith), sum_step t long))
      p q
      ∙ rw append_assoc

  pub packing_end : (o : List ℕ) → Packing c o → o ≡ written 0 (packed n form m c f) l
  unfolding packed
  packing_end o p = p ∙ placed_front _ l
