-- What is left to do of the plan's rule, in tables.
use mathlib.Core.Path.{◌≡◌, ◌∙◌}
use mathlib.Core.List.{List}
use Prim.Native.Nat.{ℕ}
use Rattle.plan_rule.specs.Plan.{PartialPlan}
use Rattle.plan_rule.specs.Steps.Agreement.{Agree}
use Rattle.plan_rule.proofs.Laws.Agreement.{agree_eq, agree_trans}
use Rattle.plan_matching.specs.declared.Residue.{Residue}
use Rattle.plan_matching.specs.Steps.Residue.{partial_plan, AsLent, Progress, Done}

pub lent_trans : {n : ℕ} {l m o : List ℕ} → AsLent n l m → AsLent n m o → AsLent n l o
lent_trans p q = record { long = q.long ∙ p.long; rest = q.rest ∙ p.rest }

module _ {n : ℕ} {f g : PartialPlan → PartialPlan} {r₀ r : Residue} {plan₀ plan : List ℕ} (p : Progress n f r₀ plan₀ g r plan) where
  -- h is done, and leaves g' to do
  pub progress_more : {h g' : PartialPlan → PartialPlan} {r' : Residue} {plan' : List ℕ} → ((s t : PartialPlan) → Agree n s t → Agree n (g' s) (g' t))
      → Agree n (g (partial_plan n r plan)) (g' (h (partial_plan n r plan))) → Done n h r plan r' plan' → Progress n f r₀ plan₀ g' r' plan'
  progress_more e s d = record {
    agree = agree_trans p.agree (agree_trans s (e _ _ d.agree));
    consistent = d.consistent;
    kept = lent_trans p.kept d.kept;
  }

  pub progress_end : g (partial_plan n r plan) ≡ partial_plan n r plan → Done n f r₀ plan₀ r plan
  progress_end e = record { agree = agree_trans p.agree (agree_eq e); consistent = p.consistent; kept = p.kept }
