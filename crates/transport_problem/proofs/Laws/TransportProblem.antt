-- What checks 1 to 7 accept: "patch and paintings accepted, connected and of equal total".
use Prim.Native.Nat.{ℕ}
use mathlib.Core.Path.{◌≡◌, refl, sym, ◌∙◌}
use mathlib.Core.Bool.{Bool, true}
use mathlib.Core.List.{List}
use lib.Dec.{eqb}
use lib.ListN.{length}
use borrow.Author.Tests.{eqb-true}
use Rattle.arithmetic.specs.Sum.{sum}
use Rattle.arithmetic.specs.Table.{at}
use Rattle.arithmetic.specs.Refusal.{refusal}
use Rattle.arithmetic.proofs.Laws.Bools.{and_l, and_r}
use Rattle.arithmetic.proofs.Laws.Refusal.{test_of, numbered, every_holds}
use Rattle.graph.specs.Graph.{Graph}
use Rattle.graph.specs.Checks.{lists_ok, size_checks, edge_checks, graph_checks}
use Rattle.graph.proofs.Laws.Accepted.{graph-passed}
use Rattle.measures.specs.Checks.{total_ok, measure_checks}
use Rattle.measures.proofs.Laws.Totals.{total_in, equal_in}
use Rattle.transport_problem.specs.Checks.{measures_long, problem_checks}
use Rattle.transport_problem.specs.Steps.TransportProblem.{TransportProblem, ProblemChecked}

-- ---- what passed
long_in : (n : ℕ) (mu nu : List ℕ) (tables : Bool) → measures_long n mu nu tables ≡ true → (length mu ≡ n) × ((length nu ≡ n) × (tables ≡ true))
unfolding measures_long
long_in n mu nu tables h =
    let r = and_r (eqb (length mu) n) _ h in
    (eqb-true _ _ (and_l (eqb (length mu) n) _ h), (eqb-true _ _ (and_l (eqb (length nu) n) _ r), and_r (eqb (length nu) n) _ r))

-- checks 1 to 5 refuse nothing: both paintings are n long
pub both_long : (r : ℕ) (g : Graph) (mu nu : List ℕ) (t tables : Bool) → t ≡ measures_long g.n mu nu tables → r ≡ refusal (graph_checks g t) → r ≡ 0
    → (length mu ≡ g.n) × (length nu ≡ g.n)
both_long r g mu nu t tables e c z = let l = long_in g.n mu nu tables (sym e ∙ (graph-passed g t (sym c ∙ z)).1) in (l.0, l.1.0)

-- nothing is refused: all of it is accepted, the caller's own tables too
pub problem_passed : (g : Graph) (mu nu : List ℕ) (tables : Bool) → refusal (problem_checks g mu nu tables) ≡ 0 → TransportProblem g mu nu × (tables ≡ true)
unfolding size_checks edge_checks measure_checks test_of numbered
problem_passed g mu nu tables h =
    let k = every_holds (problem_checks g mu nu tables) refl h in
    let long = long_in g.n mu nu tables (and_r (lists_ok g) _ (k 2)) in (
      record {
        accepted = record { vertices = k 1; lists = and_l (lists_ok g) _ (k 2); edges = k 3; lengths = k 4; connected = k 5 };
        total = sum g.n (at mu);
        before = record { size = long.0; total = refl; light = total_in g.n (at mu) (and_l (total_ok g.n (at mu)) _ (k 6)) };
        after = record {
          size = long.1.0;
          total = sym (equal_in g.n (at mu) (at nu) (k 7));
          light = total_in g.n (at nu) (and_r (total_ok g.n (at mu)) _ (k 6));
        };
      },
      long.1.1,
    )

module _ {g : Graph} {mu nu : List ℕ} {tables : Bool} {k : ℕ} {p s : List ℕ} (checked : ProblemChecked g mu nu tables k p s) (z : k ≡ 0) where
  pub problem_accepted : TransportProblem g mu nu
  problem_accepted = (problem_passed g mu nu tables (sym checked.number ∙ z)).0

  pub tables_accepted : tables ≡ true
  tables_accepted = (problem_passed g mu nu tables (sym checked.number ∙ z)).1

pub problem_numbered : (g : Graph) (mu nu : List ℕ) (tables : Bool) → numbered (problem_checks g mu nu tables) ≡ true
unfolding size_checks edge_checks measure_checks numbered
problem_numbered g mu nu tables = refl
