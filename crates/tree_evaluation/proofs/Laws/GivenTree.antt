-- A given tree that checks 1 to 10 accept, by value, can be evaluated, and what is promised of it holds of the lists that were lent.
use Prim.Native.Nat.{ℕ, ◌*◌, ◌≤◌}
use mathlib.Core.Path.{◌≡◌, sym, ap, ◌∙◌}
use mathlib.Core.List.{List}
use native.Mathlib.Omega.{arith}
use lib.IntN.{ℤ}
use lib.ListN.{length}
use Rattle.arithmetic.specs.Table.{at}
use Rattle.rooted_tree.specs.Steps.Rooted.{Rooted}
use Rattle.graph.specs.Graph.{Graph, graph, edge_length}
use Rattle.graph.proofs.Laws.Accepted.{vertices_in}
use Rattle.graph.proofs.Laws.Edge.{edge_length_most}
use Rattle.tree_checks.specs.Steps.ParentEdges.{Lengths}
use Rattle.tree_checks.proofs.Laws.TreeTests.{spanning_rooted}
use Rattle.transport_problem.specs.Steps.TransportProblem.{Painting}
use Rattle.spanning_tree.specs.TreeValue.{parents_held}
use Rattle.given_tree.specs.Given.{Given}
use Rattle.spanning_tree.proofs.Laws.TreeValue.{held_same}
use Rattle.given_tree.proofs.Laws.Given.{GivenAccepted}
use Rattle.transport_plan.specs.Steps.PlanSteps.{Measures}
use Rattle.tree_figures.specs.Steps.Tables.{Short, LengthsTo}
use Rattle.tree_evaluation.specs.Steps.EvaluateTree.{Weighted, Evaluable}

-- two paintings, for a tree of as many vertices
pub measures_of : {n k s t : ℕ} {mu nu : List ℕ} → n ≡ k → Painting k s mu → Painting k t nu → Measures n mu nu
measures_of e before after = record {
  long_mu = omega (arith, before.size);
  long_nu = omega (arith, after.size);
  total_mu = rw e before.light;
  total_nu = rw e after.light;
}

module _ {g : Graph} {w : Given} (accepted : GivenAccepted g w) {above above' : List ℕ} (sized : Lengths g w.root (at w.parents) above above')
    {n r : ℕ} {parents : List ℕ} (held : (n ≡ g.n) × ((r ≡ w.root) × (parents ≡ parents_held g.n w.parents))) where
  few : g.n ≤ 64
  few = (vertices_in g.n accepted.problem.accepted.vertices).1

  pub given_same : at parents ≡ at w.parents
  given_same = ap at held.1.1 ∙ held_same g.n w.parents few accepted.long_parents

  pub given_rooted : Rooted n r (at parents)
  given_rooted = rw (held.0, held.1.0, given_same) (spanning_rooted g w.root (at w.parents) accepted.problem.accepted.edges accepted.tree)

  pub given-short : Short n r (at above')
  given-short x l d = omega (
    arith,
    sized.each x (omega (arith, held.0)) (omega (arith, held.1.0)),
    edge_length_most g accepted.problem.accepted.edges accepted.problem.accepted.lengths x (at w.parents x),
  )

  pub given_weighted : 64 ≤ length above → {imbalances : List ℤ} → g.n ≤ length imbalances → Weighted n r parents above' w.mu w.nu imbalances
  given_weighted long i = record {
    few = omega (arith, few, held.0);
    tree = given_rooted;
    long_above = omega (arith, few, held.0, sized.size);
    short = given-short;
    measures = measures_of held.0 accepted.problem.before accepted.problem.after;
    room_imbalance = omega (arith, i, held.0);
  }

  pub given_evaluable : 64 ≤ length above → {imbalances : List ℤ} {entries : List ℕ} → g.n ≤ length imbalances → g.n * g.n ≤ length entries
      → Evaluable n r parents above' w.mu w.nu imbalances entries
  given_evaluable long {imbalances} i e =
      let t = given_weighted long {imbalances = imbalances} i in
      record {
        few = t.few;
        tree = t.tree;
        long_above = t.long_above;
        short = t.short;
        measures = t.measures;
        room_imbalance = t.room_imbalance;
        room_plan = rw held.0 e;
      }

  lengths : LengthsTo (graph n g.lower g.upper g.lengths) r (at parents) (at above')
  lengths x l d =
      rw held.0
      (sized.each x (omega (arith, held.0)) (omega (arith, held.1.0)) ∙ ap (edge_length g x) (sym (ap (λ (f : ℕ → ℕ). f x) given_same)))

  -- what holds of the tree by value on every graph with these lengths holds of the tree and the graph that were lent
  pub given_holds : (P : Graph → ℕ → (ℕ → ℕ) → Type 0)
      → (LengthsTo (graph n g.lower g.upper g.lengths) r (at parents) (at above') → P (graph n g.lower g.upper g.lengths) r (at parents))
      → P g w.root (at w.parents)
  given_holds P promise = rw (held.0, held.1.0, given_same) at (promise lengths)
