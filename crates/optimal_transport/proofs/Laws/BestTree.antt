-- The tree that the search finds: what the search starts from, that the tree can be evaluated, and that its cost is the best.
use Prim.Native.Nat.{ℕ, ◌*◌, ◌≤◌}
use mathlib.Core.Path.{◌≡◌, refl, sym, ◌∙◌}
use mathlib.Core.List.{List}
use native.Mathlib.Omega.{arith}
use lib.IntN.{ℤ, sub_ℕ}
use lib.ListN.{length}
use Rattle.arithmetic.specs.Table.{at}
use Rattle.graph.specs.Graph.{Graph, graph}
use Rattle.graph.specs.Steps.EdgeTree.{EdgeTree}
use Rattle.graph.proofs.Laws.Accepted.{vertices_in}
use Rattle.graph.proofs.Laws.Edge.{edge_length_most}
use Rattle.tree_checks.proofs.Laws.TreeTests.{spanning_rooted}
use Rattle.tree_figures.specs.Figures.{tree_cost}
use Rattle.tree_figures.specs.Steps.Tables.{LengthsTo}
use Rattle.tree_evaluation.specs.Steps.EvaluateTree.{Weighted, Evaluable, TreeEvaluated}
use Rattle.tree_evaluation.proofs.Laws.GivenTree.{measures_of}
use Rattle.duality.specs.Best.{Best}
use Rattle.duality.specs.BestCost.{best_cost}
use Rattle.duality.proofs.Laws.BestCost.{best_is}
use Rattle.duality.proofs.Laws.Best.{certificate_best}
use Rattle.first_basis.specs.Steps.FirstBasis.{CanStart}
use Rattle.network_simplex.specs.Steps.Search.{BestTree}
use Rattle.transport_problem.specs.Steps.TransportProblem.{Painting, TransportProblem}
use Rattle.optimal_transport.specs.Solve.{best_plan}

-- the search starts from a spanning tree in tables of 64 places, for any paintings of the same total
pub can_start : {g : Graph} {mu nu : List ℕ} (problem : TransportProblem g mu nu) {before after p s : List ℕ} → Painting g.n problem.total before
    → Painting g.n problem.total after → EdgeTree g 0 p s → length p ≡ 64 → length s ≡ 64 → CanStart g before after p s
can_start problem m v tree lp ls = record {
  accepted = problem.accepted;
  tree = tree;
  same = m.total ∙ sym v.total;
  light = m.light;
  mu_size = m.size;
  nu_size = v.size;
  parents_size = lp;
  edge_size = ls;
}

-- ---- the tree found

-- the lengths above its vertices are the graph's
pub found_lengths : {g : Graph} {m v : ℕ → ℕ} {n r : ℕ} {parents above u : List ℕ} (found : BestTree g m v n r parents above u)
    → LengthsTo (graph n g.lower g.upper g.lengths) r (at parents) (at above)
found_lengths found x l d = rw found.vertices_are (found.above_is x (omega (arith, found.vertices_are)) (λ q. d (q ∙ sym found.root_is)))

-- whatever paintings it is best for, it can be evaluated for any of the same total
module _ {g : Graph} {mu₀ nu₀ : List ℕ} (problem : TransportProblem g mu₀ nu₀) {m v : ℕ → ℕ} {n r : ℕ} {parents above u : List ℕ}
    (found : BestTree g m v n r parents above u) where
  pub found_few : (n ≤ 64) × (n ≡ g.n)
  found_few = (omega (arith, vertices_in g.n problem.accepted.vertices, found.vertices_are), found.vertices_are)

  module _ {mu nu : List ℕ} (before : Painting g.n problem.total mu) (after : Painting g.n problem.total nu) where
    pub found_weighted : {imbalances : List ℤ} → g.n ≤ length imbalances → Weighted n r parents above mu nu imbalances
    found_weighted i = record {
      few = found_few.0;
      tree = rw (found.vertices_are, found.root_is) (spanning_rooted g 0 (at parents) problem.accepted.edges found.certificate.spanning);
      long_above = omega (arith, found_few.0, found.above_size);
      short = λ x l d. omega (
        arith,
        found.above_is x (omega (arith, found.vertices_are)) (λ q. d (q ∙ sym found.root_is)),
        edge_length_most g problem.accepted.edges problem.accepted.lengths x (at parents x),
      );
      measures = measures_of found.vertices_are before after;
      room_imbalance = omega (arith, i, found.vertices_are);
    }

    pub found_evaluable : {imbalances : List ℤ} {entries : List ℕ} → g.n ≤ length imbalances → g.n * g.n ≤ length entries
        → Evaluable n r parents above mu nu imbalances entries
    found_evaluable {imbalances} i e =
        let t = found_weighted {imbalances = imbalances} i in
        record {
          few = t.few;
          tree = t.tree;
          long_above = t.long_above;
          short = t.short;
          measures = t.measures;
          room_imbalance = t.room_imbalance;
          room_plan = rw found.vertices_are e;
        }

-- for its own paintings it is the best
module _ {g : Graph} {mu nu : List ℕ} (problem : TransportProblem g mu nu) {n r : ℕ} {parents above u : List ℕ}
    (found : BestTree g (at mu) (at nu) n r parents above u) where
  own : Best g (at mu) (at nu) (at parents) (best_plan g mu nu (at parents)) (λ y. sub_ℕ (at u y) (at u 0)) (tree_cost g 0 (at parents) (at mu) (at nu))
  own =
      certificate_best g problem.accepted (at mu) (at nu) (at parents) (at u) (problem.before.total ∙ sym problem.after.total) found.certificate _ (λ y l. refl)

  pub found_cost : tree_cost g 0 (at parents) (at mu) (at nu) ≡ best_cost g (at mu) (at nu)
  found_cost = best_is g (at mu) (at nu) problem.accepted own

  pub found_best : Best g (at mu) (at nu) (at parents) (best_plan g mu nu (at parents)) (λ y. sub_ℕ (at u y) (at u 0)) (best_cost g (at mu) (at nu))
  found_best = rw found_cost at own

  pub found_value : {imbalances imbalances' : List ℤ} {entries entries' : List ℕ} {cost moved : ℕ}
      → (LengthsTo (graph n g.lower g.upper g.lengths) r (at parents) (at above)
      → TreeEvaluated (graph n g.lower g.upper g.lengths) r (at parents) (at mu) (at nu)
      imbalances entries cost moved imbalances' entries')
      → TreeEvaluated g 0 (at parents) (at mu) (at nu) imbalances entries cost moved imbalances' entries'
  found_value promise = rw (found.vertices_are, found.root_is) at (promise (found_lengths found))
