-- Paths of edges and their lengths (document 01's ways).
use Rattle.std.specs.Prelude.{ℕ, ◌+◌, ◌<◌, ◌≡◌, true}
use Rattle.arithmetic.specs.Table.{at}
use Rattle.graph.specs.Graph.{Graph, edges, joins}

-- an edge of length s between x and y
pub record Edge (g : Graph) (x y s : ℕ) : Type 0 where
  pub number : ℕ
  pub here : number < edges g
  pub ends : joins g number x y ≡ true
  pub size : at g.lengths number ≡ s

-- a path of edges from i to j whose lengths sum to s
pub data Path (g : Graph) : ℕ → ℕ → ℕ → Type 0 where
  stay : {i : ℕ} → Path g i i 0
  step : {i x y s t : ℕ} → Path g i x s → Edge g x y t → Path g i y (s + t)
