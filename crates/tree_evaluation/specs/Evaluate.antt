-- The call that evaluates a given tree ("weighing"): its refusal number, and its whole outcome.
use Rattle.std.specs.Prelude.{ℕ, ◌≡◌, List, length, ℤ}
use Rattle.arithmetic.specs.Table.{at, tab, matrix, result, written}
use Rattle.graph.specs.Graph.{Graph}
use Rattle.given_tree.specs.Given.{Given, answers_ok, given_refusal}
use Rattle.plan_rule.specs.Plan.{plan, moves}
use Rattle.tree_figures.specs.Figures.{imbalance, potential, tree_cost}

-- "weighing and judging run to 10"
unfoldable pub evaluate_refusal : Graph → Given → List ℤ → List ℤ → List ℕ → ℕ
evaluate_refusal g w imbalances potentials entries =
    given_refusal g w (answers_ok g.n (length imbalances) (length potentials) (length entries))

-- the plan of the tree, its table
abbrev pub tree_plan : Graph → Given → ℕ → ℕ → ℕ
tree_plan g w = plan g.n w.root (at w.parents) (at w.mu) (at w.nu)

-- "Weighing returns cost and moves and fills Ξ, u and the plan": the outcome is the refusal number k, cost and moves, and the tables
-- as they come back, each in the order of the call
pub record Evaluated (g : Graph) (w : Given) (imbalances potentials : List ℤ) (entries : List ℕ)
    (k cost moved : ℕ) (imbalances' potentials' : List ℤ) (entries' : List ℕ) : Type 0 where
  pub refusal : k ≡ evaluate_refusal g w imbalances potentials entries
  pub cost_is : cost ≡ result k (tree_cost g w.root (at w.parents) (at w.mu) (at w.nu))
  pub moves_are : moved ≡ result k (moves g.n (tree_plan g w))
  pub imbalance_is : imbalances' ≡ written k (tab g.n (imbalance g.n (at w.parents) (at w.mu) (at w.nu))) imbalances
  pub potential_is : potentials' ≡ written k (tab g.n (potential g w.root (at w.parents) (at w.mu) (at w.nu))) potentials
  pub plan_is : entries' ≡ written k (matrix g.n (tree_plan g w)) entries
