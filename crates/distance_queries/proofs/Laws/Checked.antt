-- Checks 1 to 5, and the distances from a vertex.
use Prim.Native.Nat.{ℕ}
use mathlib.Core.Path.{◌≡◌, refl, sym}
use mathlib.Core.Bool.{true, false}
use mathlib.Core.List.{List, [], ◌∷◌, ◌++◌}
use Rattle.std.specs.Prelude.{Option, Some, None, MatchOption, Result}
use Rattle.std.specs.Option.{ok_or}
use Rattle.arithmetic.specs.Refusal.{Check, check, refusal}
use Rattle.arithmetic.proofs.Laws.Refusal.{fails, passes, none_left, goes_on, numbered}
use Rattle.refusals.specs.declared.Refusal.{Refusal}
use Rattle.refusals.specs.declared.Refusal.TheVariants.{Unconnected}
use Rattle.refusals.specs.Refusals.{number_of}
use Rattle.graph.specs.Graph.{Graph}
use Rattle.graph.specs.Checks.{connected}
use Rattle.dijkstra.specs.Steps.Search.{Found}

-- what passed checks 1 to 5 goes on to the checks after them
pub goes_past : (s : ℕ) (cs ds : List Check) → numbered cs ≡ true → 0 ≡ refusal cs → s ≡ refusal ds → s ≡ refusal (cs ++ ds)
goes_past s cs ds n e h = goes_on 0 s cs ds n e refl h

-- a search that reaches all is check 5
pub connecting : (g : Graph) (s : ℕ) (o : Option (List ℕ)) → MatchOption o (connected g ≡ false) (λ table. Found g s true table)
    → {r : Result (List ℕ) Refusal} → r ≡ ok_or o Unconnected → number_of r ≡ refusal (check 5 (connected g) ∷ [])
connecting g s (Some table) w e = rw e (passes 0 5 _ [] (sym w.connects) none_left)
connecting g s None w e = rw e (fails 5 _ [] w)
