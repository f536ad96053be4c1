-- A walk up a tree, from the vertex `from` to the vertex `stop` above it, that stores a number at each vertex on the way but `stop`.
use Rattle.std.specs.Prelude.{◌≡◌, Bool, true, false, not, ◌&&◌, List, ℕ, ◌<◌, length}
use Rattle.arithmetic.specs.Table.{at}
use Rattle.rooted_tree.specs.Chain.{below}
use Rattle.rooted_tree.specs.Steps.Rooted.{Rooted}
use Rattle.tree_pivot.specs.Steps.Pivot.{Toward}

pub record CanWalk (n r : ℕ) (p : ℕ → ℕ) (from stop : ℕ) : Type 0 where
  pub tree : Rooted n r p
  pub from_low : from < n
  pub stop_low : stop < n
  pub up : below p n from stop ≡ true

-- x is met on the way from `from` up to y, before y
abbrev pub passed : ℕ → (ℕ → ℕ) → ℕ → ℕ → ℕ → Bool
passed n p from y x = below p n from x && not (below p n y x)

-- the table t has become u: each vertex x met before y holds a number of which D x says what it is, the others are as they were
pub record Stored (n : ℕ) (p : ℕ → ℕ) (from y : ℕ) (D : ℕ → ℕ → Type 0) (t u : List ℕ) : Type 0 where
  pub size : length u ≡ length t
  pub done : (x : ℕ) → x < n → passed n p from y x ≡ true → D x (at u x)
  pub kept : (x : ℕ) → x < n → passed n p from y x ≡ false → at u x ≡ at t x

-- e is what the vertex before x hands on to x: f of the child of x that leads to `from`, and at `from` the first
pub record Handed (n : ℕ) (p : ℕ → ℕ) (from : ℕ) (f : ℕ → ℕ) (first x e : ℕ) : Type 0 where
  pub begins : x ≡ from → e ≡ first
  pub passes : (z : ℕ) → Toward n p from x z → e ≡ f z
