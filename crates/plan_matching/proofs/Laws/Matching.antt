-- The moves in a subtree: from the lowest vertex with a surplus to the lowest with a deficit, until one side is empty.
use mathlib.Core.Path.{◌≡◌, refl, sym, ap, ◌∙◌}
use mathlib.Core.Bool.{◌&&◌}
use mathlib.Core.List.{List}
use mathlib.Core.Logic.{◌⊎◌, ⊎_elim, inl, inr}
use Prim.Native.Nat.{ℕ, ◌≤◌, ◌<◌}
use native.Mathlib.Omega.{arith}
use lib.Bits.{bit_and}
use lib.Dec.{ltb}
use Rattle.arithmetic.specs.Table.{at}
use Rattle.arithmetic.specs.Mask.{mask}
use Rattle.arithmetic.specs.Steps.Mask.{bit}
use Rattle.arithmetic.proofs.Laws.Sum.{sum_ext}
use Rattle.arithmetic.proofs.Laws.Mask.{bit_mask, mask_bits}
use Rattle.vertex_set.specs.Lowest.{lowest}
use Rattle.vertex_set.proofs.Laws.Lowest.{lowest_ext, empty_lowest}
use Rattle.vertex_set.proofs.Laws.Words.{and_masks}
use Rattle.plan_rule.specs.Plan.{PartialPlan, sender, receiver, matched}
use Rattle.plan_rule.specs.Steps.Agreement.{Agree}
use Rattle.plan_rule.proofs.Laws.Matching.{found, unmatched, unmatched_le, unmatched_falls, lowest_move, moved-sends, matched-moved, matched_done}
use Rattle.plan_rule.proofs.Laws.Agreement.{agree_eq, matched_agree}
use Rattle.plan_matching.specs.declared.Residue.{Residue}
use Rattle.plan_matching.specs.Steps.Residue.{partial_plan, positive, Progress, Done, sends_least}
use Rattle.plan_matching.proofs.Laws.Progress.{progress_more, progress_end}

-- the vertices of a subtree at which a table is positive
module _ (n below w : ℕ) (l : List ℕ) (word : below ≡ mask n (bit below)) (e : w ≡ positive n l) where
  both_are : bit_and below w ≡ mask n (λ x. bit below x && ltb 0 (at l x))
  unfolding positive
  both_are = rw e (ap (λ (u : ℕ). bit_and u (positive n l)) word ∙ and_masks n (bit below) _)

  pub both_word : bit_and below w ≡ mask n (bit (bit_and below w))
  both_word = mask_bits n _ _ both_are

  -- the lowest of them, and that there is none
  both_lowest : {i : ℕ} → i ≡ lowest (bit (bit_and below w)) n 0 → i ≡ lowest (λ x. bit below x && ltb 0 (at l x)) n 0
  both_lowest h = h ∙ lowest_ext _ _ n 0 (λ x l. ap (λ (u : ℕ). bit u x) both_are ∙ bit_mask n _ x (omega arith))

  pub both_positive : (i : ℕ) → (i ≡ lowest (bit (bit_and below w)) n 0) × (i < n) → 0 < at l i
  both_positive i h = (found n (bit below) (at l) i (sym (both_lowest h.0)) h.1).1

  both_none : bit_and below w ≡ 0 → n ≤ lowest (λ x. bit below x && ltb 0 (at l x)) n 0
  both_none h = empty_lowest n (λ x. bit below x && ltb 0 (at l x)) (sym both_are ∙ h)

unmatched_agree : {n : ℕ} {s t : PartialPlan} → Agree n s t → unmatched n s ≡ unmatched n t
unfolding unmatched
unmatched_agree {n} e = sum_ext n _ _ (λ x l. rw (e.surplus x l, e.deficit x l))

module _ (n below : ℕ) (word : below ≡ mask n (bit below)) {f : PartialPlan → PartialPlan} {r₀ r : Residue} {plan₀ plan : List ℕ}
    (p : Progress n f r₀ plan₀ (matched n (bit below) n) r plan) where
  module _ {i j : ℕ} (ei : (i ≡ lowest (bit (bit_and below r.senders)) n 0) × (i < n))
      (ej : (j ≡ lowest (bit (bit_and below r.receivers)) n 0) × (j < n)) {r' : Residue} {plan' : List ℕ}
      (d : Done n (sends_least i j) r plan r' plan') where
    from : i ≡ sender n (bit below) (partial_plan n r plan)
    from = both_lowest n below _ _ word p.consistent.senders_are ei.0

    to : j ≡ receiver n (bit below) (partial_plan n r plan)
    to = both_lowest n below _ _ word p.consistent.receivers_are ej.0

    pub matching_less : unmatched n (partial_plan n r' plan') < unmatched n (partial_plan n r plan)
    matching_less =
        omega (arith, unmatched_agree d.agree, unmatched_falls (lowest_move n (bit below) (partial_plan n r plan) i j from to ei.1 ej.1))

    pub matching_more : Progress n f r₀ plan₀ (matched n (bit below) n) r' plan'
    matching_more =
        progress_more p (λ s t. matched_agree (λ x l. refl) n)
        (agree_eq (sym (matched-moved n (bit below) n _ (unmatched_le n _ p.consistent.apart))
        ∙ ap (matched n (bit below) n) (moved-sends n (bit below) _ i j from to ei.1 ej.1)))
        d

  -- where one side is empty, the moves are done
  pub matching_end : (bit_and below r.senders ≡ 0) ⊎ (bit_and below r.receivers ≡ 0) → Done n f r₀ plan₀ r plan
  matching_end e =
      progress_end p (matched_done n (bit below) n _ (⊎_elim
      (λ z. inl (both_none n below _ _ word p.consistent.senders_are z))
      (λ z. inr (both_none n below _ _ word p.consistent.receivers_are z))
      e))
