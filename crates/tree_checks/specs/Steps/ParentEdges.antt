-- The edge between each vertex and its parent, and tables of marks.
use Rattle.std.specs.Prelude.{◌≡◌, Bool, true, not, cond, ◌&&◌, ◌||◌, List, [], ◌∷◌, ℕ, ◌<◌, eqb, length}
use Rattle.arithmetic.specs.Bools.{any}
use Rattle.arithmetic.specs.Table.{at}
use Rattle.graph.specs.Graph.{Graph, joins, edge_length}
use Rattle.graph.specs.Checks.{marked}

-- no place of a table is marked
abbrev pub unmarked : List Bool → Bool
unmarked [] = true
unmarked (b ∷ l) = not b && unmarked l

-- z is x, and its parent is y
abbrev pub hangs : (ℕ → ℕ) → ℕ → ℕ → ℕ → Bool
hangs p x y z = eqb x z && eqb y (p z)

-- the edge of length s between x and y is noted at x, if y is the parent of x
pub record Noted (p : ℕ → ℕ) (x y s : ℕ) (above above' : List ℕ) (marks marks' : List Bool) : Type 0 where
  pub size : length above' ≡ length above
  pub size_marks : length marks' ≡ length marks
  pub each : (z : ℕ) → at above' z ≡ cond (hangs p x y z) s (at above z)
  pub mark : (z : ℕ) → marked marks' z ≡ marked marks z || hangs p x y z

-- the first m edges are noted: a mark tells whether one of them leads from a vertex to its parent, and a marked vertex has its length
pub record NotedTo (g : Graph) (p : ℕ → ℕ) (m : ℕ) (above above' : List ℕ) (marks marks' : List Bool) : Type 0 where
  pub size : length above' ≡ length above
  pub size_marks : length marks' ≡ length marks
  pub each : (x : ℕ) → x < g.n → marked marks' x ≡ true → at above' x ≡ edge_length g x (p x)
  pub mark : (x : ℕ) → x < g.n → marked marks' x ≡ any m (λ e. joins g e x (p x))

-- each vertex but the root has the length of the edge to its parent
pub record Lengths (g : Graph) (r : ℕ) (p : ℕ → ℕ) (above above' : List ℕ) : Type 0 where
  pub size : length above' ≡ length above
  pub each : (x : ℕ) → x < g.n → (x ≡ r → ⊥) → at above' x ≡ edge_length g x (p x)
