-- The optimality test: the costs of the given tree and of the tree found, and how the test ends.
use Prim.Native.Nat.{ℕ, ◌≤◌}
use mathlib.Core.Path.{◌≡◌, refl, ◌∙◌}
use mathlib.Core.Bool.{true}
use mathlib.Core.List.{List}
use native.Mathlib.Omega.{arith}
use lib.Dec.{eqb}
use lib.IntN.{ℤ, pos}
use lib.ListN.{length}
use Rattle.arithmetic.specs.Sum.{pick}
use Rattle.arithmetic.specs.Table.{at, tab}
use Rattle.arithmetic.proofs.Laws.Table.{length-tab, result_refused}
use Rattle.graph.specs.Graph.{Graph}
use Rattle.graph.proofs.Laws.Accepted.{vertices_in}
use Rattle.spanning_tree.specs.TreeValue.{parents_held}
use Rattle.given_tree.specs.Given.{Given}
use Rattle.given_tree.specs.Steps.Given.{GivenChecked}
use Rattle.given_tree.proofs.Laws.Given.{given_accepted}
use Rattle.tree_figures.specs.Figures.{tree_cost}
use Rattle.tree_evaluation.proofs.Laws.GivenTree.{given_weighted, given_holds}
use Rattle.duality.specs.BestCost.{best_cost}
use Rattle.network_simplex.specs.Steps.Search.{BestTree}
use Rattle.transport_problem.specs.Steps.TransportProblem.{Painting, TransportProblem}
use Rattle.optimal_transport.proofs.Laws.BestTree.{found_weighted, found_lengths, found_cost}
use Rattle.optimality_test.specs.OptimalityTest.{optimality_refusal, OptimalityTested}
use Rattle.optimality_test.specs.Steps.TreeCosts.{CanCost, CostOf}

-- a tree whose cost can be had has at most 64 vertices
pub cost_few : {n r : ℕ} {parents above mu nu : List ℕ} → CanCost n r parents above mu nu → n ≤ 64
cost_few can =
    let flat : ℕ → ℤ = λ _. pos 0 in
    (can (tab 64 flat) (omega (arith, length-tab 64 flat))).few

-- ---- the tree found
pub found_can : {g : Graph} {mu₀ nu₀ : List ℕ} (problem : TransportProblem g mu₀ nu₀) {m v : ℕ → ℕ} {n r : ℕ} {parents above u : List ℕ}
    → BestTree g m v n r parents above u → {mu nu : List ℕ} → Painting g.n problem.total mu → Painting g.n problem.total nu
    → CanCost n r parents above mu nu
found_can {g} problem found before after imbalances i =
    found_weighted problem found before after (omega (arith, vertices_in g.n problem.accepted.vertices))

pub found-least : {g : Graph} {mu nu : List ℕ} → TransportProblem g mu nu → {n r : ℕ} {parents above u : List ℕ}
    → BestTree g (at mu) (at nu) n r parents above u → {cost : ℕ} → CostOf n r parents above mu nu cost → cost ≡ best_cost g (at mu) (at nu)
found-least {g} problem found c =
    rw (found.vertices_are, found.root_is) at (c g.lower g.upper g.lengths (found_lengths found)) ∙ found_cost problem found

-- ---- how the test ends
pub test_refused : {g : Graph} {w : Given} {k : ℕ} {above above' first edge : List ℕ}
    → GivenChecked g w true k above above' first edge → (k ≡ 0 → ⊥) → OptimalityTested g w k 0
unfolding optimality_refusal
test_refused checked d = record { refusal = checked.number; optimal_is = result_refused _ _ d }

-- nothing is refused: the given tree by value
module _ {g : Graph} {w : Given} {above above' first edge : List ℕ} (checked : GivenChecked g w true 0 above above' first edge)
    {n r : ℕ} {parents : List ℕ} (held : (n ≡ g.n) × ((r ≡ w.root) × (parents ≡ parents_held g.n w.parents))) where
  pub given_can : 64 ≤ length above → CanCost n r parents above' w.mu w.nu
  given_can long imbalances i =
      let accepted = given_accepted checked refl in
      given_weighted accepted (checked.lengths refl) held long (omega (arith, vertices_in g.n accepted.problem.accepted.vertices))

  pub tested : {cost least : ℕ} → CostOf n r parents above' w.mu w.nu cost → least ≡ best_cost g (at w.mu) (at w.nu)
      → OptimalityTested g w 0 (pick (eqb cost least) 1)
  unfolding optimality_refusal
  tested {cost} costs best =
      let given_is =
      given_holds (given_accepted checked refl) (checked.lengths refl) held (λ h s p. cost ≡ tree_cost h s p (at w.mu) (at w.nu))
      (costs g.lower g.upper g.lengths) in
      record { refusal = checked.number; optimal_is = rw (given_is, best) }
