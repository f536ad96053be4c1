-- Subtree masks after a pivot: a mask is the subtotal of the masses 2 ^ y, so it moves as the other totals do.
use mathlib.Core.Path.{◌≡◌, refl, sym, ◌∙◌}
use mathlib.Core.Bool.{Bool, true}
use mathlib.Core.List.{List}
use Prim.Native.Nat.{ℕ, zero, suc, ◌^◌, ◌≤◌, ◌<◌}
use native.Mathlib.Omega.{arith}
use lib.Pow.{pow_mono}
use Rattle.arithmetic.specs.Sum.{pick, sum}
use Rattle.arithmetic.specs.Table.{at}
use Rattle.arithmetic.specs.Mask.{mask}
use Rattle.arithmetic.proofs.Laws.Mask.{mask_lt}
use Rattle.rooted_tree.specs.Chain.{below}
use Rattle.rooted_tree.specs.Steps.Subtotal.{subtotal}
use Rattle.tree_pivot.specs.Steps.Pivot.{Pivot}
use Rattle.tree_pivot.specs.Steps.PivotTables.{Totals, TotalsMoved}
use Rattle.tree_pivot.specs.Steps.SubtreeMasks.{Masks}
use Rattle.tree_pivot.proofs.Laws.Pivot.{total_a}

-- the mass of a vertex in its mask
pub powers : ℕ → ℕ
powers y = 2 ^ y

mask-sum : (n : ℕ) (f : ℕ → Bool) → mask n f ≡ sum n (λ y. pick (f y) (powers y))
unfolding mask sum powers
mask-sum zero f = refl
mask-sum (suc n) f = rw (mask-sum n f)

mask-subtotal : (n : ℕ) (p : ℕ → ℕ) (x : ℕ) → mask n (λ y. below p n y x) ≡ subtotal p n powers x
unfolding subtotal
mask-subtotal n p x = mask-sum n (λ y. below p n y x)

pub powers_light : (n : ℕ) → n ≤ 64 → sum n powers < 2 ^ 64
powers_light n h = omega (arith, mask-sum n (λ y. true), mask_lt n (λ y. true), pow_mono h)

pub mask_totals : (n : ℕ) (p : ℕ → ℕ) (t : List ℕ) → Masks n p t → Totals n p powers t
mask_totals n p t masks x l = masks x l ∙ mask-subtotal n p x

module _ {n r : ℕ} {p : List ℕ} {a b c : ℕ} {t u : List ℕ} (moved : TotalsMoved n r p a b c t u) {q : ℕ → ℕ} (pivot : Pivot n r (at p) a b c q)
    (masks : Masks n (at p) t) where
  pub moved_masks : Masks n q u
  moved_masks x l = moved.totals q powers pivot (mask_totals n (at p) t masks) x l ∙ sym (mask-subtotal n q x)

  -- the new subtree of a is the one that was cut off
  pub moved_subtree : at u a ≡ mask n (λ y. below (at p) n y c)
  moved_subtree =
      moved.totals q powers pivot (mask_totals n (at p) t masks) a pivot.cut.a_low ∙ total_a pivot powers ∙ sym (mask-subtotal n (at p) c)
