-- The best call: its refusal number, and its whole outcome.
use Rattle.std.specs.Prelude.{ℕ, ◌≡◌, List, length, ℤ}
use Rattle.arithmetic.specs.Refusal.{refusal}
use Rattle.arithmetic.specs.Table.{at, tab, matrix, result, written}
use Rattle.graph.specs.Graph.{Graph}
use Rattle.given_tree.specs.Given.{answers_ok}
use Rattle.plan_rule.specs.Plan.{plan, moves}
use Rattle.duality.specs.Best.{Best}
use Rattle.duality.specs.BestCost.{best_cost}
use Rattle.transport_problem.specs.Checks.{problem_checks}

-- "the best call after 7"; its answer tables are those of the parents, the potential and the plan
unfoldable pub solve_refusal : Graph → List ℕ → List ℕ → List ℕ → List ℤ → List ℕ → ℕ
solve_refusal g mu nu parents potentials entries = refusal (problem_checks g mu nu (answers_ok g.n (length parents) (length potentials) (length entries)))

-- "its plan by the rule above": that of a tree with root 0 and the parents p
abbrev pub best_plan : Graph → List ℕ → List ℕ → (ℕ → ℕ) → ℕ → ℕ → ℕ
best_plan g mu nu p = plan g.n 0 p (at mu) (at nu)

-- the whole outcome: the refusal number k, cost and moves, and the tables as they come back
pub record Solved (g : Graph) (mu nu parents : List ℕ) (potentials : List ℤ) (entries : List ℕ)
    (k cost moved : ℕ) (parents' : List ℕ) (potentials' : List ℤ) (entries' : List ℕ) : Type 0 where
  pub refusal : k ≡ solve_refusal g mu nu parents potentials entries
  pub cost_is : cost ≡ result k (best_cost g (at mu) (at nu))
  -- "Which of several best trees comes back is free, and so is the potential between those that meet mission demand 3"
  pub p : ℕ → ℕ
  pub u : ℕ → ℤ
  pub best : k ≡ 0 → Best g (at mu) (at nu) p (best_plan g mu nu p) u (best_cost g (at mu) (at nu))
  -- all else follows from these two
  pub moves_are : moved ≡ result k (moves g.n (best_plan g mu nu p))
  pub parents_are : parents' ≡ written k (tab g.n p) parents
  pub potentials_are : potentials' ≡ written k (tab g.n u) potentials
  pub plan_is : entries' ≡ written k (matrix g.n (best_plan g mu nu p)) entries
