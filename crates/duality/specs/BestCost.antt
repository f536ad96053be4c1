-- Document 01, "The best answer": the best cost, the least cost of a spanning tree of the graph under any root. mu and nu are the paintings.
use Rattle.std.specs.Prelude.{ℕ, zero, suc, min, cond, eqb}
use mathlib.Core.List.{List, [], ◌∷◌, ◌++◌, flat_map}
use Rattle.arithmetic.specs.Refusal.{refusal}
use Rattle.arithmetic.specs.Table.{at, tab}
use Rattle.graph.specs.Graph.{Graph}
use Rattle.tree_checks.specs.Checks.{tree_checks}
use Rattle.tree_figures.specs.Figures.{tree_cost}

-- the least of some numbers; 0 if there are none
unfoldable pub least : List ℕ → ℕ
least [] = 0
least (x ∷ []) = x
least (x ∷ y ∷ l) = min x (least (y ∷ l))

-- every table of k numbers below n
unfoldable pub parent_tables : ℕ → ℕ → List (List ℕ)
parent_tables n zero = [] ∷ []
parent_tables n (suc k) = flat_map (λ t. tab n (λ v. t ++ (v ∷ []))) (parent_tables n k)

-- the cost of the tree with the root r and the parents in the table t, if checks 8 to 10 accept it
abbrev pub cost_of : Graph → (ℕ → ℕ) → (ℕ → ℕ) → ℕ → List ℕ → List ℕ
cost_of g mu nu r t = cond (eqb (refusal (tree_checks g r (at t))) 0) (tree_cost g r (at t) mu nu ∷ []) []

-- the costs of all spanning trees: every root with every table of parents
unfoldable pub costs : Graph → (ℕ → ℕ) → (ℕ → ℕ) → List ℕ
costs g mu nu = flat_map (λ r. flat_map (cost_of g mu nu r) (parent_tables g.n g.n)) (tab g.n (λ r. r))

-- "every other spanning tree of the patch, under any root, costs at least as much"
unfoldable pub best_cost : Graph → (ℕ → ℕ) → (ℕ → ℕ) → ℕ
best_cost g mu nu = least (costs g mu nu)
