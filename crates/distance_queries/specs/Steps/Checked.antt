-- Checks 1 to 5, and the distances from a vertex.
use Rattle.std.specs.Prelude.{ℕ, ◌<◌, ◌≡◌, List, length}
use Rattle.arithmetic.specs.Table.{at}
use Rattle.graph.specs.Graph.{Graph}
use Rattle.graph.specs.Distance.{distance}

-- s is a vertex, and the start if that is one
pub record SearchesFrom (n start s : ℕ) : Type 0 where
  pub vertex : s < n
  pub same : start < n → s ≡ start

-- the table has the distances from the start, if that is a vertex
pub record DistancesFrom (g : Graph) (start : ℕ) (table : List ℕ) : Type 0 where
  pub size : length table ≡ 64
  pub each : start < g.n → (v : ℕ) → v < g.n → at table v ≡ distance g start v
