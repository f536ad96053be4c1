-- The sections as code writes them.
use mathlib.Core.Path.{◌≡◌, ◌∙◌}
use mathlib.Core.List.{List, ◌++◌, append_assoc}
use Prim.Native.Nat.{ℕ, ◌+◌, ◌-◌, ◌≤◌}
use native.Mathlib.Omega.{arith}
use lib.ListN.{length, length-append}
use borrow.Rule.Slice.PartMut.{mid_of, put_mid}
use Rattle.arithmetic.specs.Table.{at, tab, written}
use Rattle.arithmetic.proofs.Laws.Table.{length-tab, length-rows}
use Rattle.little_endian.specs.LittleEndian.{byte_of, fields}
use Rattle.little_endian.specs.Steps.Buffer.{placed}
use Rattle.little_endian.proofs.Laws.Placed.{placed_then, placed_part, placed_front}
use Rattle.image_sections.specs.SectionBytes.{edge_entry, tree_bytes}

-- an edge has four bytes
pub length_entry : (a b lengths : List ℕ) (e : ℕ) → length (edge_entry a b lengths e) ≡ 4
length_entry a b lengths e =
    simp (length-append, length-tab 1 (byte_of (at a e)), length-tab 1 (byte_of (at b e)), length-tab 2 (byte_of (at lengths e)))

pub edge_placed : (p a b x : ℕ) (l l₁ l₂ l₃ : List ℕ) → p + 4 ≤ length l → l₁ ≡ placed p (tab 1 (byte_of a)) l
    → l₂ ≡ placed (p + 1) (tab 1 (byte_of b)) l₁ → l₃ ≡ placed (p + 2) (tab 2 (byte_of x)) l₂
    → l₃ ≡ placed p (tab 1 (byte_of a) ++ (tab 1 (byte_of b) ++ tab 2 (byte_of x))) l
edge_placed p a b x l l₁ l₂ l₃ h e₁ e₂ e₃ =
    let ka = length-tab 1 (byte_of a) in
    let kb = length-tab 1 (byte_of b) in
    let ab = length-append (tab 1 (byte_of a)) (tab 1 (byte_of b)) in
    placed_then p (p + 2) (tab 1 (byte_of a) ++ tab 1 (byte_of b)) (tab 2 (byte_of x)) l l₂ l₃ (omega arith) (omega arith)
    (placed_then p (p + 1) _ _ l l₁ l₂ (omega arith) (omega arith) e₁ e₂) e₃
    ∙ rw append_assoc

-- root and parents, the parents in a part of the buffer
pub tree_placed : (n root : ℕ) (parents l l₁ y : List ℕ) → n + 1 ≤ length l → l₁ ≡ placed 0 (tab 1 (byte_of root)) l
    → y ≡ written 0 (fields 1 n (at parents)) (mid_of 1 (length l₁ - 1) l₁)
    → put_mid 1 (length l₁ - 1) l₁ y ≡ written 0 (tree_bytes n root parents) l
tree_placed n root parents l l₁ y h e f =
    let r = length-rows 1 n (λ i. byte_of (at parents i)) in
    placed_part 1 (tab 1 (byte_of root)) (fields 1 n (at parents)) l l₁ y (length-tab 1 (byte_of root)) (omega arith) e f ∙ placed_front _ l
