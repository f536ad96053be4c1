-- The call that tests a given tree for optimality, document 01's judging: its refusal number, and its whole outcome.
use Rattle.std.specs.Prelude.{ℕ, ◌≡◌, Bool, true, eqb, Result}
use Rattle.arithmetic.specs.Sum.{pick}
use Rattle.arithmetic.specs.Table.{at, result}
use Rattle.refusals.specs.declared.Refusal.{Refusal}
use Rattle.refusals.specs.Refusals.{or_zero}
use Rattle.graph.specs.Graph.{Graph}
use Rattle.given_tree.specs.Given.{Given, given_refusal}
use Rattle.tree_figures.specs.Figures.{tree_cost}
use Rattle.duality.specs.BestCost.{best_cost}

-- "weighing and judging run to 10"; judging has no answer table
unfoldable pub optimality_refusal : Graph → Given → ℕ
optimality_refusal g w = given_refusal g w true

-- the cost of the given tree
abbrev pub given_cost : Graph → Given → ℕ
given_cost g w = tree_cost g w.root (at w.parents) (at w.mu) (at w.nu)

-- "Judging a tree returns 1 exactly when every other spanning tree of the patch, under any root, costs at least as much; else 0"
pub record OptimalityTested (g : Graph) (w : Given) (k optimal : ℕ) : Type 0 where
  pub refusal : k ≡ optimality_refusal g w
  pub optimal_is : optimal ≡ result k (pick (eqb (given_cost g w) (best_cost g (at w.mu) (at w.nu))) 1)

-- "A refusal returns the number, all other results 0": what stands for the number of an answer
abbrev pub optimal_of : Result Bool Refusal → ℕ
optimal_of = or_zero (λ (b : Bool). pick b 1)
