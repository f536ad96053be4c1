-- Checks 1 to 10: what they accept.
use Prim.Native.Nat.{ℕ, ◌*◌, ◌≤◌}
use mathlib.Core.Path.{◌≡◌, refl, sym, ◌∙◌}
use mathlib.Core.Bool.{Bool, true}
use mathlib.Core.List.{List, ◌++◌}
use lib.Dec.{eqb, leb}
use lib.ListN.{length}
use borrow.Author.Tests.{eqb-true, leb-true}
use Rattle.arithmetic.specs.Refusal.{Check, refusal}
use Rattle.arithmetic.specs.Table.{at}
use Rattle.arithmetic.proofs.Laws.Bools.{case≡, and_l, and_r}
use Rattle.arithmetic.proofs.Laws.Refusal.{test_of, numbered, stops, every_holds}
use Rattle.graph.specs.Graph.{Graph}
use Rattle.graph.specs.Checks.{size_checks, edge_checks}
use Rattle.graph.specs.SpanningTree.{SpanningTree}
use Rattle.tree_checks.specs.Checks.{tree_checks}
use Rattle.tree_checks.proofs.Laws.TreeTests.{tests_spanning}
use Rattle.measures.specs.Checks.{measure_checks}
use Rattle.transport_problem.specs.Checks.{problem_checks}
use Rattle.transport_problem.specs.Steps.TransportProblem.{TransportProblem}
use Rattle.transport_problem.proofs.Laws.TransportProblem.{problem_passed}
use Rattle.given_tree.specs.Given.{Given, parents_long, answers_ok, given_checks, given_refusal}
use Rattle.given_tree.specs.Steps.Given.{GivenChecked}

-- what the checks say of a graph, two paintings and a tree that they accept
pub record GivenAccepted (g : Graph) (w : Given) : Type 0 where
  pub problem : TransportProblem g w.mu w.nu
  pub long_parents : length w.parents ≡ g.n
  pub tree : SpanningTree g w.root (at w.parents)

-- ---- what passed
pub parents_in : (n : ℕ) (ps : List ℕ) (t : Bool) → parents_long n ps t ≡ true → (length ps ≡ n) × (t ≡ true)
unfolding parents_long
parents_in n ps t h = (eqb-true _ _ (and_l (eqb (length ps) n) _ h), and_r (eqb (length ps) n) _ h)

pub room_within : (n i u m : ℕ) → answers_ok n i u m ≡ true → (n ≤ i) × ((n ≤ u) × (n * n ≤ m))
unfolding answers_ok
room_within n i u m h =
    let r = and_r (leb n i) _ h in
    (leb-true _ _ (and_l (leb n i) _ h), (leb-true _ _ (and_l (leb n u) _ r), leb-true _ _ (and_r (leb n u) _ r)))

-- a list that refuses nothing begins with one that refuses nothing
first_passes : (cs ds : List Check) → refusal (cs ++ ds) ≡ 0 → refusal cs ≡ 0
first_passes cs ds h = case≡ (refusal cs) 0 (λ e. e) (λ d. absurd (d (stops _ cs ds refl d ∙ h)))

-- nothing is refused: all of it is accepted, the answer tables too
pub given-passed : (g : Graph) (w : Given) (answers : Bool) → given_refusal g w answers ≡ 0 → GivenAccepted g w × (answers ≡ true)
unfolding size_checks edge_checks measure_checks tree_checks test_of numbered
given-passed g w answers h =
    let k = every_holds (given_checks g w answers) refl h in
    let p = problem_passed g w.mu w.nu (parents_long g.n w.parents answers) (first_passes (problem_checks g w.mu w.nu _) _ h) in
    let l = parents_in g.n w.parents answers p.1 in
    (record { problem = p.0; long_parents = l.0; tree = tests_spanning g w.root (at w.parents) (k 8) (k 9) (k 10) }, l.1)

pub given_accepted : {g : Graph} {w : Given} {answers : Bool} {k : ℕ} {above above' first edge : List ℕ}
    → GivenChecked g w answers k above above' first edge → k ≡ 0 → GivenAccepted g w
given_accepted {g} {w} {answers} checked z = (given-passed g w answers (sym checked.number ∙ z)).0

-- ---- how the checks end

-- the answer tables' test has the answer s
pub given_answers : {g : Graph} {w : Given} {s t : Bool} {k : ℕ} {above above' first edge : List ℕ}
    → s ≡ t → GivenChecked g w s k above above' first edge → GivenChecked g w t k above above' first edge
given_answers e checked = rw e at checked

pub given_refused : {g : Graph} {w : Given} {answers : Bool} {k : ℕ} {above above' first edge : List ℕ}
    → k ≡ given_refusal g w answers → (k ≡ 0 → ⊥) → GivenChecked g w answers k above above' first edge
given_refused e d = record { number = e; lengths = λ z. absurd (d z); tree = λ z. absurd (d z) }
