-- How the distance call ends, on plain values.
use mathlib.Core.Path.{◌≡◌, sym, ◌∙◌}
use mathlib.Core.Bool.{Bool}
use mathlib.Core.List.{List, ◌++◌}
use Prim.Native.Nat.{ℕ, ◌*◌, ◌≤◌}
use lib.Dec.{leb}
use lib.ListN.{length, drop}
use borrow.Author.Tests.{leb-true}
use Rattle.arithmetic.specs.Refusal.{refusal}
use Rattle.arithmetic.specs.Table.{matrix}
use Rattle.arithmetic.proofs.Laws.Table.{length-rows, written_refused}
use Rattle.graph.specs.Graph.{Graph}
use Rattle.graph.specs.Distance.{distance}
use Rattle.graph.specs.Checks.{graph_checks}
use Rattle.graph.specs.Steps.Accepted.{Accepted}
use Rattle.graph.proofs.Laws.Accepted.{graph-passed}
use Rattle.distances.specs.Distances.{distances_refusal, distances_table}

module _ (g : Graph) (out : List ℕ) (t : Bool) (r : ℕ) (room : t ≡ leb (g.n * g.n) (length out)) (checked : r ≡ refusal (graph_checks g t)) where
  pub number : r ≡ distances_refusal g out
  unfolding distances_refusal
  number = rw (← room) checked

  pub not_done : (r ≡ 0 → ⊥) → out ≡ distances_table g out
  unfolding distances_table
  not_done d = rw (← number) (written_refused r _ out d)

  pub enough : r ≡ 0 → Accepted g × (g.n * g.n ≤ length out)
  enough z = let k = graph-passed g t (sym checked ∙ z) in (k.0, leb-true _ _ (sym room ∙ k.1))

  pub all_done : r ≡ 0 → (out' : List ℕ) → out' ≡ matrix g.n (distance g) ++ drop (g.n * g.n) out → out' ≡ distances_table g out
  unfolding distances_table
  all_done z out' h = rw (← number, z, length-rows g.n g.n (distance g)) h
