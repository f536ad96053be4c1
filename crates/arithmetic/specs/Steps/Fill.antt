-- A table that a loop fills from the front: the invariant of every such loop, and what it leaves.
use Rattle.std.specs.Prelude.{◌≡◌, List, ◌++◌, ℕ, ◌≤◌, ◌<◌, length, drop}
use Rattle.arithmetic.specs.Table.{at, tab}

-- of the first n places those before m have become f's, and the others are as they were
pub record Filling {A : Type 0} (n : ℕ) (f : ℕ → A) (old new : List A) (m : ℕ) : Type 0 where
  pub low : m ≤ n
  pub room : n ≤ length old
  pub size : length new ≡ length old
  pub front : new ≡ tab m f ++ drop m old

-- the first n places have become f's, and nothing is said of the others
pub record Filled (n : ℕ) (f : ℕ → ℕ) (old new : List ℕ) : Type 0 where
  pub size : length new ≡ length old
  pub each : (x : ℕ) → x < n → at new x ≡ f x
