-- Pointer doubling: a table of vertices that are met going up through parents.
use Rattle.std.specs.Prelude.{◌≡◌, List, ℕ, ◌≤◌, ◌<◌, length}
use Rattle.arithmetic.specs.Table.{at}
use Rattle.rooted_tree.specs.Chain.{climb}

-- the first n entries of the table are vertices
pub record Vertices (n : ℕ) (table : List ℕ) : Type 0 where
  pub room : n ≤ length table
  pub low : (x : ℕ) → x < n → at table x < n

-- entry x of the table is met after k steps from x up through parents, or more
pub record Ahead (n : ℕ) (p : ℕ → ℕ) (k : ℕ) (table : List ℕ) : Type 0 where
  pub inside : Vertices n table
  pub far : (x : ℕ) → x < n → (s : ℕ) × ((k ≤ s) × (climb p s x ≡ at table x))
