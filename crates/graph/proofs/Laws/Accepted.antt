-- What a call may rely on once checks 1 to 5 have passed.
use Prim.Native.Nat.{ℕ, ◌≤◌, ◌<◌}
use mathlib.Core.Path.{◌≡◌, refl, sym, ◌∙◌}
use mathlib.Core.Bool.{Bool, true}
use mathlib.Core.List.{List}
use lib.Dec.{ltb, leb, eqb}
use lib.ListN.{length}
use borrow.Author.Tests.{ltb-true, leb-true, eqb-true}
use Rattle.arithmetic.specs.Refusal.{refusal}
use Rattle.arithmetic.proofs.Laws.Bools.{and_l, and_r}
use Rattle.arithmetic.proofs.Laws.Refusal.{test_of, numbered, every_holds}
use Rattle.graph.specs.Graph.{Graph, edges}
use Rattle.graph.specs.Checks.{vertices_ok, lists_fit, lists_ok, size_checks, edge_checks, graph_checks}
use Rattle.graph.specs.Steps.Accepted.{Sized, Accepted}

-- check 1, as an order
pub vertices_in : (n : ℕ) → vertices_ok n ≡ true → (0 < n) × (n ≤ 64)
unfolding vertices_ok
vertices_in n h = (ltb-true 0 n (and_l (ltb 0 n) (leb n 64) h), leb-true n 64 (and_r (ltb 0 n) (leb n 64) h))

-- check 2, as numbers
pub lists_fit_in : (a b l : List ℕ) → lists_fit a b l ≡ true → (length a ≤ 512) × ((length b ≡ length a) × (length l ≡ length a))
unfolding lists_fit
lists_fit_in a b l h =
    let t = and_r (leb (length a) 512) _ h in (
      leb-true _ 512 (and_l (leb (length a) 512) _ h),
      (eqb-true _ _ (and_l (eqb (length b) (length a)) _ t), eqb-true _ _ (and_r (eqb (length b) (length a)) _ t)),
    )

pub lists_in : (g : Graph) → lists_ok g ≡ true → (edges g ≤ 512) × ((length g.upper ≡ edges g) × (length g.lengths ≡ edges g))
lists_in g = lists_fit_in g.lower g.upper g.lengths

-- checks 1 to 5 refuse nothing: all of it is accepted, the call's own tables too
pub graph-passed : (g : Graph) (t : Bool) → refusal (graph_checks g t) ≡ 0 → Accepted g × (t ≡ true)
unfolding size_checks edge_checks test_of numbered
graph-passed g t h =
    let k = every_holds (graph_checks g t) refl h in
    (record { vertices = k 1; lists = and_l (lists_ok g) t (k 2); edges = k 3; lengths = k 4; connected = k 5 }, and_r (lists_ok g) t (k 2))

-- and so do 1 and 2, in a number r that code has found
pub sizes_passed : (r : ℕ) (g : Graph) (t : Bool) → r ≡ refusal (size_checks g t) → r ≡ 0 → Sized g
unfolding size_checks test_of numbered
sizes_passed r g t e z = let k = every_holds (size_checks g t) refl (sym e ∙ z) in record { vertices = k 1; lists = and_l (lists_ok g) t (k 2) }

pub sizes_numbered : (g : Graph) (t : Bool) → numbered (size_checks g t) ≡ true
unfolding size_checks numbered
sizes_numbered g t = refl

pub graph_numbered : (g : Graph) (t : Bool) → numbered (graph_checks g t) ≡ true
unfolding size_checks edge_checks numbered
graph_numbered g t = refl

-- the number of a call whose test of its own tables has the answer t
pub tables_answer : (r : ℕ) (g : Graph) (t u : Bool) → t ≡ u → r ≡ refusal (graph_checks g t) → r ≡ refusal (graph_checks g u)
tables_answer r g t u e h = rw (← e) h
