-- Chains of parents. A tree is given by a function p, the parent of each vertex, and its root r.
use Rattle.std.specs.Prelude.{Bool, not, cond, ◌&&◌, ◌||◌, ℕ, zero, suc, eqb}

-- the vertex met after k steps from y up through parents
unfoldable pub climb : (ℕ → ℕ) → ℕ → ℕ → ℕ
climb p zero y = y
climb p (suc k) y = climb p k (p y)

-- "Vertex y is below x if x is y or is met going from y up through parents", by at most k steps
unfoldable pub below : (ℕ → ℕ) → ℕ → ℕ → ℕ → Bool
below p zero y x = eqb y x
below p (suc k) y x = eqb y x || below p k (p y) x

-- "The depth counts the edges up to the root", at most k of them
unfoldable pub depth : (ℕ → ℕ) → ℕ → ℕ → ℕ → ℕ
depth p r zero y = 0
depth p r (suc k) y = cond (eqb y r) 0 (suc (depth p r k (p y)))

-- c is a child of v: v is its parent. The root r is its own parent and nobody's child
abbrev pub is_child : ℕ → (ℕ → ℕ) → ℕ → ℕ → Bool
is_child r p v c = not (eqb c r) && eqb (p c) v
