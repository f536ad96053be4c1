-- The cost of an accepted tree alone.
use Rattle.std.specs.Prelude.{ℕ, ◌≤◌, ◌≡◌, List, ℤ, length}
use Rattle.arithmetic.specs.Table.{at}
use Rattle.graph.specs.Graph.{graph}
use Rattle.tree_figures.specs.Figures.{tree_cost}
use Rattle.tree_figures.specs.Steps.Tables.{LengthsTo}
use Rattle.tree_evaluation.specs.Steps.EvaluateTree.{Weighted}

-- a tree whose cost can be asked for: its flow can be found, with tables for 64 vertices
abbrev pub CanCost : (n r : ℕ) (parents above mu nu : List ℕ) → Type 0
CanCost n r parents above mu nu = (imbalances : List ℤ) → 64 ≤ length imbalances → Weighted n r parents above mu nu imbalances

-- and its cost, on every graph that has the lengths above its vertices
abbrev pub CostOf : (n r : ℕ) (parents above mu nu : List ℕ) (cost : ℕ) → Type 0
CostOf n r parents above mu nu cost =
    (a b lengths : List ℕ) → LengthsTo (graph n a b lengths) r (at parents) (at above)
    → cost ≡ tree_cost (graph n a b lengths) r (at parents) (at mu) (at nu)
