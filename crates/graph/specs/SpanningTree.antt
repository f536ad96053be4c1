-- Document 01, "Trees": spanning trees of a graph, by the parents p of its vertices and a root r.
use Rattle.std.specs.Prelude.{ℕ, ◌<◌, ◌≡◌, true}
use Rattle.rooted_tree.specs.Chain.{climb}
use Rattle.graph.specs.Graph.{Graph, joined}

-- "A root below n, its own parent, with n parents that keep to this": "each vertex but the root is joined to its parent by a patch
-- edge, and every chain of parents reaches the root"
pub record SpanningTree (g : Graph) (r : ℕ) (p : ℕ → ℕ) : Type 0 where
  pub root : r < g.n
  pub stay : p r ≡ r
  pub edge : (x : ℕ) → x < g.n → (x ≡ r → ⊥) → joined g x (p x) ≡ true
  pub chain : (x : ℕ) → x < g.n → (k : ℕ) × (climb p k x ≡ r)
