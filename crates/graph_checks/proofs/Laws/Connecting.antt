-- Check 5: a search from vertex 0 that reaches every vertex.
use Prim.Native.Nat.{ℕ}
use mathlib.Core.Path.{◌≡◌, refl, sym}
use mathlib.Core.Bool.{Bool, true, false}
use mathlib.Core.List.{List}
use Rattle.arithmetic.proofs.Laws.Bools.{is_false}
use Rattle.graph.specs.Graph.{Graph}
use Rattle.graph.specs.Checks.{connected}
use Rattle.graph.specs.Steps.Accepted.{WellFormed}
use Rattle.graph.proofs.Laws.Connected.{connected_exact}
use Rattle.path_labels.specs.Steps.ShortestPathTree.{Searched}

pub connected_is : (g : Graph) (r : Bool) (p s labels : List ℕ) → WellFormed g → Searched g 0 r p s labels → r ≡ connected g
connected_is g true p s labels f w = sym ((connected_exact g f.edges f.lengths).1 (w.reached refl))
connected_is g false p s labels f w =
    let z = w.missed refl in
    sym (is_false (connected g) (λ h. let q = (connected_exact g f.edges f.lengths).0 h z.0 z.1.0 in z.1.1 q.0 q.1))
