-- What the steps of Floyd and Warshall's method make of a table.
use Rattle.std.specs.Prelude.{ℕ, ◌+◌, ◌*◌, ◌≤◌, ◌<◌, min, List, length}
use Rattle.arithmetic.specs.Steps.Table.{cell}
use Rattle.graph.specs.Distance.{far}

-- the table holds n × n numbers of at most far
pub record Bounded (n : ℕ) (l : List ℕ) : Type 0 where
  pub room : n * n ≤ length l
  pub most : (i j : ℕ) → i < n → j < n → cell n l i j ≤ far

-- the shorter of f's path from i to j and of its paths from i to k and from k to j
abbrev pub shorter : (ℕ → ℕ → ℕ) → ℕ → ℕ → ℕ → ℕ
shorter f k i j = min (f i j) (f i k + f k j)
