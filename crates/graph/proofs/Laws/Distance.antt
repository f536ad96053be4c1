-- The distances of an accepted graph: d(i, j) is the least length over all paths from i to j.
use Prim.Native.Nat.{ℕ, ◌+◌, ◌≤◌, ◌<◌}
use mathlib.Core.Path.{◌≡◌}
use mathlib.Core.Bool.{true}
use native.Mathlib.Nat.{mul-le-mul_right}
use native.Mathlib.Omega.{arith}
use Rattle.graph.specs.Graph.{Graph, joined, edge_length}
use Rattle.graph.specs.Distance.{far, distance}
use Rattle.graph.specs.Steps.Path.{Path}
use Rattle.graph.specs.Steps.Accepted.{Accepted}
use Rattle.graph.proofs.Laws.Path.{Least, path_join, path_turn, path-potential, via_self, via-triangle, via-path, distance-below}
use Rattle.graph.proofs.Laws.Edge.{edge_joined, edge_size}
use Rattle.graph.proofs.Laws.Connected.{connected-path}
use Rattle.graph.proofs.Laws.Accepted.{vertices_in}

module _ (g : Graph) where
  pub distance_self : (i : ℕ) → distance g i i ≡ 0
  unfolding distance
  distance_self i = via_self g g.n i

  pub distance-triangle : (i v j : ℕ) → v < g.n → distance g i j ≤ distance g i v + distance g v j
  unfolding distance
  distance-triangle i v j h = via-triangle g g.n v i j h

  module _ (a : Accepted g) where
    -- any two vertices have a path of at most 128 edges
    some_path : (i j : ℕ) → i < g.n → j < g.n → (s : ℕ) × ((s < far) × Path g i j s)
    some_path i j hi hj =
        let p = connected-path g a.lengths a.connected i hi in
        let q = connected-path g a.lengths a.connected j hj in (
          p.0 + q.0,
          (
            omega (arith, p.1.0, q.1.0, mul-le-mul_right 65535 (vertices_in g.n a.vertices).1),
            path_join g (path_turn g p.1.1) q.1.1,
          ),
        )

    pub distance_least : (i j : ℕ) → i < g.n → j < g.n → Least g i j (distance g i j)
    unfolding distance
    distance_least i j hi hj =
        let z = some_path i j hi hj in
        let b = distance-below g a.edges z.1.1 in
        record { path = via-path g a.edges g.n i j (omega arith); least = λ s p. distance-below g a.edges p }

    -- a potential within each edge's length is within each distance
    pub distance-step : (U : ℕ → ℕ) → ((x y : ℕ) → joined g x y ≡ true → U x ≤ U y + edge_length g x y)
        → (i j : ℕ) → i < g.n → j < g.n → U i ≤ U j + distance g i j
    distance-step U h i j hi hj =
        path-potential g U (λ x y t e. omega (arith, h x y (edge_joined g e), edge_size g a.edges e)) (distance_least i j hi hj).path
