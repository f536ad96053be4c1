-- How the best call ends.
use Prim.Native.Nat.{ℕ, ◌*◌, ◌≤◌}
use mathlib.Core.Path.{◌≡◌, sym, ◌∙◌}
use mathlib.Core.Bool.{Bool}
use mathlib.Core.List.{List, ◌++◌}
use lib.IntN.{ℤ, pos, sub_ℕ}
use lib.ListN.{length, drop}
use Rattle.arithmetic.specs.Table.{at, tab}
use Rattle.arithmetic.proofs.Laws.Table.{length-tab, length-rows, result_refused, written_refused}
use Rattle.graph.specs.Graph.{Graph, graph}
use Rattle.given_tree.specs.Given.{answers_ok}
use Rattle.given_tree.proofs.Laws.Given.{room_within}
use Rattle.tree_figures.specs.Steps.Tables.{LengthsTo}
use Rattle.tree_evaluation.specs.Steps.EvaluateTree.{TreeEvaluated}
use Rattle.network_simplex.specs.Steps.Search.{BestTree}
use Rattle.transport_problem.specs.Steps.TransportProblem.{ProblemChecked}
use Rattle.transport_problem.proofs.Laws.TransportProblem.{problem_accepted, tables_accepted}
use Rattle.optimal_transport.specs.Solve.{solve_refusal, best_plan, Solved}
use Rattle.optimal_transport.proofs.Laws.BestTree.{found_value, found_cost, found_best}

module _ {g : Graph} {mu nu : List ℕ} (parents : List ℕ) (potentials : List ℤ) (entries : List ℕ) {fits : Bool}
    (room : fits ≡ answers_ok g.n (length parents) (length potentials) (length entries)) {k : ℕ} {first edge : List ℕ}
    (checked : ProblemChecked g mu nu fits k first edge) where
  number : k ≡ solve_refusal g mu nu parents potentials entries
  unfolding solve_refusal
  number = rw (← room) checked.number

  pub solve_refused : (k ≡ 0 → ⊥) → Solved g mu nu parents potentials entries k 0 0 parents potentials entries
  solve_refused d = record {
    refusal = number;
    cost_is = result_refused k _ d;
    p = at mu;
    u = λ y. pos 0;
    best = λ z. absurd (d z);
    moves_are = result_refused k _ d;
    parents_are = written_refused k _ _ d;
    potentials_are = written_refused k _ _ d;
    plan_is = written_refused k _ _ d;
  }

  module _ (z : k ≡ 0) where
    pub room_for : (g.n ≤ length parents) × ((g.n ≤ length potentials) × (g.n * g.n ≤ length entries))
    room_for = room_within g.n _ _ _ (sym room ∙ tables_accepted checked z)

    module _ {n r : ℕ} {best above u : List ℕ} (found : BestTree g (at mu) (at nu) n r best above u)
        {imbalances imbalances' : List ℤ} {entries' : List ℕ} {cost moved : ℕ}
        (promise : LengthsTo (graph n g.lower g.upper g.lengths) r (at best) (at above)
        → TreeEvaluated (graph n g.lower g.upper g.lengths) r (at best) (at mu) (at nu)
        imbalances entries cost moved imbalances' entries') where
      pub solved : {parents' : List ℕ} {potentials' : List ℤ} → parents' ≡ tab n (at best) ++ drop n parents
          → potentials' ≡ tab g.n (λ y. sub_ℕ (at u y) (at u 0)) ++ drop g.n potentials
          → Solved g mu nu parents potentials entries 0 cost moved parents' potentials' entries'
      solved copied raised =
          let problem = problem_accepted checked z in
          let value = found_value problem found promise in
          record {
            refusal = sym z ∙ number;
            cost_is = value.cost_is ∙ found_cost problem found;
            p = at best;
            u = λ y. sub_ℕ (at u y) (at u 0);
            best = λ _. found_best problem found;
            moves_are = value.moves_are;
            parents_are = rw (length-tab g.n (at best)) (rw found.vertices_are at copied);
            potentials_are = rw (length-tab g.n (λ y. sub_ℕ (at u y) (at u 0))) raised;
            plan_is = rw (length-rows g.n g.n (best_plan g mu nu (at best))) value.plan_is;
          }
