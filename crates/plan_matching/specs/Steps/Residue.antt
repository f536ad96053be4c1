-- A partial plan in tables: what the functions that make moves ask, and say of their steps.
use Rattle.std.specs.Prelude.{◌≡◌, List, ℕ, ◌+◌, ◌*◌, ◌≤◌, ◌<◌, ◌^◌, min, ltb, length, drop}
use Rattle.arithmetic.specs.Table.{at}
use Rattle.arithmetic.specs.Mask.{mask}
use Rattle.arithmetic.specs.Steps.Table.{cell}
use Rattle.plan_rule.specs.Plan.{PartialPlan, sends}
use Rattle.plan_rule.specs.Steps.Agreement.{Agree}
use Rattle.plan_matching.specs.declared.Residue.{Residue}

abbrev pub residue : ℕ → ℕ → List ℕ → List ℕ → Residue
residue senders receivers surplus deficit = record {
  senders = senders;
  receivers = receivers;
  surplus = surplus;
  deficit = deficit;
}

-- the partial plan that a residue and the table of a plan read
abbrev pub partial_plan : ℕ → Residue → List ℕ → PartialPlan
partial_plan n r plan = record { sent = cell n plan; surplus = at r.surplus; deficit = at r.deficit }

-- the vertices below n at which the table is positive, as a word
unfoldable pub positive : ℕ → List ℕ → ℕ
positive n l = mask n (λ x. ltb 0 (at l x))

-- the tables have room, no vertex has both a surplus and a deficit, what a vertex may yet send fits into the plan, and the words are those
-- of the tables
pub record Consistent (n : ℕ) (r : Residue) (plan : List ℕ) : Type 0 where
  pub small : n ≤ 64
  pub room : n * n ≤ length plan
  pub long_s : n ≤ length r.surplus
  pub long_d : n ≤ length r.deficit
  pub apart : (x : ℕ) → x < n → min (at r.surplus x) (at r.deficit x) ≡ 0
  pub fits : (i j : ℕ) → i < n → j < n → cell n plan i j + at r.surplus i ≤ 2 ^ 24
  pub senders_are : r.senders ≡ positive n r.surplus
  pub receivers_are : r.receivers ≡ positive n r.deficit

-- behind its n × n places the table l is as lent
pub record AsLent (n : ℕ) (lent l : List ℕ) : Type 0 where
  pub long : length l ≡ length lent
  pub rest : drop (n * n) l ≡ drop (n * n) lent

-- f is to be done from a residue and a plan; from r and plan, g is left to do
pub record Progress (n : ℕ) (f : PartialPlan → PartialPlan) (r₀ : Residue) (plan₀ : List ℕ) (g : PartialPlan → PartialPlan) (r : Residue) (plan : List ℕ) : Type 0 where
  pub agree : Agree n (f (partial_plan n r₀ plan₀)) (g (partial_plan n r plan))
  pub consistent : Consistent n r plan
  pub kept : AsLent n plan₀ plan

-- nothing is left to do
abbrev pub Done : ℕ → (PartialPlan → PartialPlan) → Residue → List ℕ → Residue → List ℕ → Type 0
Done n f r₀ plan₀ r plan = Progress n f r₀ plan₀ (λ s. s) r plan

-- one move from i to j
abbrev pub sends_least : ℕ → ℕ → PartialPlan → PartialPlan
sends_least i j s = sends s i j (min (s.surplus i) (s.deficit j))
