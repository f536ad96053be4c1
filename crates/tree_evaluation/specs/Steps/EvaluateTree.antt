-- Evaluating an accepted tree: what is asked, and what is promised of imbalance, plan and cost. The search rests on this promise alone.
use Rattle.std.specs.Prelude.{ℕ, ◌*◌, ◌≤◌, ◌≡◌, List, ◌++◌, ℤ, length, drop}
use Rattle.arithmetic.specs.Table.{at, tab, matrix}
use Rattle.rooted_tree.specs.Steps.Rooted.{Rooted}
use Rattle.graph.specs.Graph.{Graph}
use Rattle.plan_rule.specs.Plan.{plan, moves}
use Rattle.transport_plan.specs.Steps.PlanSteps.{Measures}
use Rattle.tree_figures.specs.Figures.{imbalance, tree_cost}
use Rattle.tree_figures.specs.Steps.Tables.{Short}

-- a tree with n vertices, the root r and the lengths above its vertices, two paintings, and room for the imbalances
pub record Weighted (n r : ℕ) (parents above mu nu : List ℕ) (imbalances : List ℤ) : Type 0 where
  pub few : n ≤ 64
  pub tree : Rooted n r (at parents)
  pub long_above : n ≤ length above
  pub short : Short n r (at above)
  pub measures : Measures n mu nu
  pub room_imbalance : n ≤ length imbalances

-- the same with room for a plan
pub record Evaluable (n r : ℕ) (parents above mu nu : List ℕ) (imbalances : List ℤ) (entries : List ℕ) : Type 0 where
  pub few : n ≤ 64
  pub tree : Rooted n r (at parents)
  pub long_above : n ≤ length above
  pub short : Short n r (at above)
  pub measures : Measures n mu nu
  pub room_imbalance : n ≤ length imbalances
  pub room_plan : n * n ≤ length entries

-- its cost, the moves of its plan, and its imbalances and its plan in the first places of their tables
pub record TreeEvaluated (g : Graph) (r : ℕ) (p mu nu : ℕ → ℕ) (imbalances : List ℤ) (entries : List ℕ)
    (cost moved : ℕ) (imbalances' : List ℤ) (entries' : List ℕ) : Type 0 where
  pub cost_is : cost ≡ tree_cost g r p mu nu
  pub moves_are : moved ≡ moves g.n (plan g.n r p mu nu)
  pub imbalance_is : imbalances' ≡ tab g.n (imbalance g.n p mu nu) ++ drop g.n imbalances
  pub plan_is : entries' ≡ matrix g.n (plan g.n r p mu nu) ++ drop (g.n * g.n) entries
