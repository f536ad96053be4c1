-- What the table shows: demand 3 holds of the certificate of every case, and of every image, that has one.
use Rattle.std.specs.Prelude.{ℕ}
use Rattle.arithmetic.specs.Table.{at}
use Rattle.graph.specs.Graph.{Graph}
use Rattle.plan_rule.specs.Plan.{plan}
use Rattle.duality.specs.Best.{Best}
use Rattle.worked_cases.specs.Figures.{BestFigures, potential_of}

-- ---- a certificate

-- demand 3 of a certificate, with the plan by the rule
abbrev pub BestOf : Graph → (ℕ → ℕ) → (ℕ → ℕ) → BestFigures → Type 0
BestOf g mu nu k = Best g mu nu (at k.parents) (plan g.n 0 (at k.parents) mu nu) (potential_of k) k.cost
