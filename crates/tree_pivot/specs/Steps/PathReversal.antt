-- The path from a up to c, which a pivot reverses: it is walked up to the parent of c, and each vertex on it gets the vertex before it for its parent.
use Rattle.std.specs.Prelude.{◌≡◌, List, ℕ, length}
use Rattle.arithmetic.specs.Table.{at}
use Rattle.tree_pivot.specs.Steps.Pivot.{Pivot}
use Rattle.tree_pivot.specs.Steps.PathWalk.{Stored, Handed}

-- from a up to y, and not at y, each vertex has the number of the vertex before it, and a the first
abbrev pub PathAdvanced : ℕ → List ℕ → (a y first : ℕ) → (t u : List ℕ) → Type 0
PathAdvanced n p a y first t u = Stored n (at p) a y (Handed n (at p) a (at t) first) t u

-- the subtree of c is hung by a on b, by an edge of length `long`: the parents and the lengths above the vertices follow
pub record PathReversed (n : ℕ) (p above : List ℕ) (r a b c long : ℕ) (p' above' : List ℕ) : Type 0 where
  pub size : length p' ≡ length p
  pub pivot : Pivot n r (at p) a b c (at p')
  pub lengths : PathAdvanced n p a (at p c) long above above'
