-- The lowest common ancestor of two vertices of a tree.
use mathlib.Core.Path.{◌≡◌, sym, ap, ◌∙◌}
use mathlib.Core.Bool.{true, false}
use mathlib.Core.List.{List}
use Prim.Native.Nat.{ℕ, ◌<◌}
use native.Mathlib.Omega.{arith}
use Rattle.arithmetic.specs.Table.{at}
use Rattle.arithmetic.specs.Steps.Mask.{bit}
use Rattle.arithmetic.proofs.Laws.Bools.{clash}
use Rattle.arithmetic.proofs.Laws.Mask.{bit_mask}
use Rattle.rooted_tree.specs.Chain.{below, depth}
use Rattle.rooted_tree.proofs.Laws.Rooted.{refl_b, parent_b, trans_b, down_b, all-b, depth-step}
use Rattle.ratio_test.specs.Steps.CommonAncestor.{LowestCommonAncestor, CanMeet}

-- x is on the path from s up to the ancestor
pub record Meeting (n : ℕ) (p : ℕ → ℕ) (s t x : ℕ) : Type 0 where
  pub low : x < n
  pub above_s : below p n s x ≡ true
  pub lowest : (z : ℕ) → below p n s z ≡ true → below p n t z ≡ true → below p n x z ≡ true

module _ {n : ℕ} {parents masks : List ℕ} {s t : ℕ} (can : CanMeet n parents masks s t) where
  t_below : (x : ℕ) → x < n → bit (at masks x) t ≡ below (at parents) n t x
  t_below x l =
      ap (λ (w : ℕ). bit w t) (can.masks_are x l) ∙ bit_mask n (λ y. below (at parents) n y x) t can.t_low

  pub meeting_none : Meeting n (at parents) s t s
  meeting_none = record { low = can.s_low; above_s = refl_b can.tree s can.s_low; lowest = λ z h k. h }

  module _ {x : ℕ} (on : Meeting n (at parents) s t x) where
    module _ (off : bit (at masks x) t ≡ false) where
      not_common : (z : ℕ) → below (at parents) n t z ≡ true → x ≡ z → ⊥
      not_common z h e = clash (rw (← e) at h) (sym (t_below x on.low) ∙ off)

      pub meeting_more : Meeting n (at parents) s t (at parents x)
      meeting_more = record {
        low = can.tree.into x on.low;
        above_s = trans_b can.tree x (at parents x) s can.s_low on.above_s (parent_b can.tree x on.low);
        lowest = λ z h k. down_b can.tree x z on.low (on.lowest z h k) (not_common z k);
      }

      -- x is not the root, so its parent is less deep
      pub meeting_less : depth (at parents) 0 n (at parents x) < depth (at parents) 0 n x
      meeting_less = omega (arith, depth-step can.tree x on.low (not_common 0 (all-b can.tree t can.t_low)))

    pub meeting_end : bit (at masks x) t ≡ true → LowestCommonAncestor n (at parents) s t x
    meeting_end h = record {
      common = record { low = on.low; over_a = on.above_s; over_b = sym (t_below x on.low) ∙ h };
      lowest = on.lowest;
    }
