-- Spanning trees by tables: a table p of parents, and a table s of the numbers of the edges to them.
use Rattle.std.specs.Prelude.{ℕ, ◌<◌, ◌≡◌, true, List}
use Rattle.arithmetic.specs.Table.{at}
use Rattle.graph.specs.Graph.{Graph, edges, joins}
use Rattle.graph.specs.SpanningTree.{SpanningTree}

-- a spanning tree with root r
pub record EdgeTree (g : Graph) (r : ℕ) (p s : List ℕ) : Type 0 where
  pub tree : SpanningTree g r (at p)
  pub into : (v : ℕ) → v < g.n → at p v < g.n
  pub number : (v : ℕ) → v < g.n → (v ≡ r → ⊥) → at s v < edges g
  pub ends : (v : ℕ) → v < g.n → (v ≡ r → ⊥) → joins g (at s v) v (at p v) ≡ true
