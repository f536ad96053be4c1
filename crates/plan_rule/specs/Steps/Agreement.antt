-- The plan's rule depends on the values at the vertices below n alone.
use Rattle.std.specs.Prelude.{◌≡◌, ℕ, ◌<◌}
use Rattle.plan_rule.specs.Plan.{PartialPlan}

-- two partial plans agree at the vertices below n
pub record Agree (n : ℕ) (s t : PartialPlan) : Type 0 where
  pub sent : (i j : ℕ) → i < n → j < n → s.sent i j ≡ t.sent i j
  pub surplus : (x : ℕ) → x < n → s.surplus x ≡ t.surplus x
  pub deficit : (x : ℕ) → x < n → s.deficit x ≡ t.deficit x
