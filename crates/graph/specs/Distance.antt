-- The distance d(i, j). That it is the least length over all paths is `distance_least`.
use Rattle.std.specs.Prelude.{ℕ, zero, suc, ◌+◌, min, cond, eqb}
use Rattle.graph.specs.Graph.{Graph, joined, edge_length}

-- stands for "no path": more than any shortest path's length
abbrev pub far : ℕ
far = 429496700

-- the least length over the paths from i to j whose inner vertices are below k, or far
unfoldable pub via : Graph → ℕ → ℕ → ℕ → ℕ
via g zero i j = cond (eqb i j) 0 (cond (joined g i j) (edge_length g i j) far)
via g (suc k) i j = min (via g k i j) (via g k i k + via g k k j)

-- d(i, j)
unfoldable pub distance : Graph → ℕ → ℕ → ℕ
distance g i j = via g g.n i j
