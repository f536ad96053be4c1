-- What the walks up a tree leave in a table.
use Rattle.std.specs.Prelude.{◌≡◌, List, ℕ, length}
use Rattle.arithmetic.specs.Table.{at}
use Rattle.tree_walks.specs.MarkAncestors.{marked_word}

-- the walk up from y: its bit is set in the word of each x that y is below, and no other bit is changed
pub record WalkedUp (n : ℕ) (p : ℕ → ℕ) (y : ℕ) (old new : List ℕ) : Type 0 where
  pub size : length new ≡ length old
  pub each : (x : ℕ) → at new x ≡ marked_word n p y old x
