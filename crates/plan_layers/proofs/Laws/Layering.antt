-- The vertices of a word in turn, the words of each depth, and the depths in turn.
use mathlib.Core.Path.{◌≡◌, refl, sym, ap, ◌∙◌}
use mathlib.Core.Bool.{Bool, true, false}
use mathlib.Core.List.{List}
use Prim.Native.Nat.{ℕ, zero, suc, ◌-◌, ◌*◌, ◌%◌, ◌^◌, ◌≤◌, ◌<◌}
use native.Mathlib.Nat.{zero-div}
use native.Mathlib.Omega.{arith}
use lib.Dec.{eqb}
use Rattle.arithmetic.specs.Table.{at}
use Rattle.arithmetic.specs.Mask.{mask}
use Rattle.arithmetic.specs.Steps.Mask.{bit}
use Rattle.arithmetic.proofs.Laws.Bools.{case, case≡}
use Rattle.arithmetic.proofs.Laws.Mask.{bit_mask}
use Rattle.vertex_set.specs.Lowest.{lowest}
use Rattle.vertex_set.proofs.Laws.Without.{Without, without-lowest}
use Rattle.plan_rule.specs.Plan.{PartialPlan, matched}
use Rattle.plan_rule.specs.Steps.Taken.{taken, taken_by_depth}
use Rattle.plan_rule.proofs.Laws.Agreement.{agree_refl, agree_eq, taken_agree, taken_by_depth_agree}
use Rattle.plan_matching.specs.declared.Residue.{Residue}
use Rattle.plan_matching.specs.Steps.Residue.{Progress, Done}
use Rattle.plan_matching.proofs.Laws.Progress.{progress_more, progress_end}
use Rattle.plan_layers.specs.Steps.Layers.{set_of, taken_by_tables}

-- ---- the vertices of a word
module _ (n : ℕ) (b : ℕ → ℕ → Bool) where
  -- none is taken
  taken_none : (f : ℕ → Bool) (k : ℕ) (s : PartialPlan) → ((y : ℕ) → y < k → f y ≡ false) → taken n f b k s ≡ s
  unfolding taken
  taken_none f zero s h = refl
  taken_none f (suc k) s h = rw (h k (omega arith)) (taken_none f k s (λ y l. h y (omega arith)))

  -- x is the first of f, and g has the others
  taken_first : (f g : ℕ → Bool) (x : ℕ) → f x ≡ true → g x ≡ false → ((y : ℕ) → y < x → f y ≡ false)
      → ((y : ℕ) → y < n → (y ≡ x → ⊥) → g y ≡ f y) → (k : ℕ) → x < k → k ≤ n → (s : PartialPlan)
      → taken n f b k s ≡ taken n g b k (matched n (b x) n s)
  unfolding taken
  taken_first f g x has gone low same zero l m s = absurd (omega arith)
  taken_first f g x has gone low same (suc k) l m s =
      case≡ k x
      (λ e. rw (e, has, gone, taken_none f x s low)
      (sym (taken_none g x (matched n (b x) n s) (λ y h. same y (omega arith) (λ z. omega arith) ∙ low y h))))
      (λ d. rw (same k (omega arith) d, taken_first f g x has gone low same k (omega arith) (omega arith) s))

-- before the lowest vertex there is none
lowest_before : (f : ℕ → Bool) (k i x : ℕ) → i ≤ x → x < lowest f k i → f x ≡ false
unfolding lowest
lowest_before f zero i x l h = absurd (omega arith)
lowest_before f (suc k) i x l h =
    case (f i)
    (λ e. let g : x < i = rw e at h in absurd (omega arith))
    (λ e. let g : x < lowest f k (suc i) = rw e at h in case≡ x i (λ q. rw q e) (λ d. lowest_before f k (suc i) x (omega arith) g))

-- of a layer's vertices, those of the word `left` are still to be taken
pub record Remaining (n : ℕ) (masks : List ℕ) (f : PartialPlan → PartialPlan) (r₀ : Residue) (plan₀ : List ℕ) (left : ℕ) (r : Residue) (plan : List ℕ)
    : Type 0 where
  pub word : left ≡ mask n (bit left)
  pub progress : Progress n f r₀ plan₀ (taken n (bit left) (set_of masks) n) r plan

module _ {n : ℕ} {masks : List ℕ} {f : PartialPlan → PartialPlan} {r₀ : Residue} {plan₀ : List ℕ} {left : ℕ} {r : Residue} {plan : List ℕ}
    (w : Remaining n masks f r₀ plan₀ left r plan) where
  module _ {x : ℕ} (first : (x ≡ lowest (bit left) n 0) × (x < n)) where
    pub taking_out : Without n left x ((1 * 2 ^ x) % 2 ^ 64)
    taking_out = without-lowest n left x w.progress.consistent.small w.word first

    pub taking_more : {r' : Residue} {plan' : List ℕ} → Done n (matched n (bit (at masks x)) n) r plan r' plan'
        → Remaining n masks f r₀ plan₀ (left - (1 * 2 ^ x) % 2 ^ 64) r' plan'
    unfolding set_of
    taking_more d = record {
      word = taking_out.word;
      progress = progress_more w.progress (λ s t. taken_agree (λ x y _ _. refl) (λ x _. refl) n (omega arith))
          (agree_eq (taken_first n (set_of masks) _ _ x taking_out.has taking_out.gone
          (λ y l. lowest_before (bit left) n 0 y (omega arith) (omega (arith, first.0))) taking_out.kept n first.1 (omega arith) _))
          d;
    }

  pub taking_end : left ≡ 0 → Done n f r₀ plan₀ r plan
  taking_end e = progress_end w.progress (taken_none n _ (bit left) n _ (λ y l. rw (e, zero-div (2 ^ y))))

-- ---- the depths in turn
module _ (n : ℕ) (depths masks : List ℕ) {f : PartialPlan → PartialPlan} {r₀ r : Residue} {plan₀ plan : List ℕ} (d : ℕ)
    (p : Progress n f r₀ plan₀ (taken_by_tables n depths masks d) r plan) where
  pub layering_more : {e w : ℕ} {r' : Residue} {plan' : List ℕ} → d ≡ suc e → w ≡ mask n (λ x. eqb (at depths x) e)
      → Done n (taken n (bit w) (set_of masks) n) r plan r' plan' → Progress n f r₀ plan₀ (taken_by_tables n depths masks e) r' plan'
  unfolding taken_by_tables taken_by_depth
  layering_more {e} {w} h word done =
      progress_more p (λ s t. taken_by_depth_agree (λ x y _ _. refl) (λ x _. refl) e)
      (rw h (taken_by_depth_agree (λ x y _ _. refl) (λ x _. refl) e (taken_agree (λ x y _ _. refl)
      (λ x l. sym (ap (λ (u : ℕ). bit u x) word ∙ bit_mask n _ x l)) n (omega arith) agree_refl)))
      done

  pub layering_end : d ≡ 0 → Done n f r₀ plan₀ r plan
  unfolding taken_by_tables taken_by_depth
  layering_end e = progress_end p (rw e)
