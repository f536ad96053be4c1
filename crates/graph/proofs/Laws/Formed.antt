-- What checks 1 to 4 say of a graph, in numbers.
use Prim.Native.Nat.{ℕ, ◌≤◌, ◌<◌}
use mathlib.Core.Path.{◌≡◌}
use lib.ListN.{length}
use Rattle.arithmetic.specs.Table.{at}
use Rattle.graph.specs.Graph.{Graph, edges}
use Rattle.graph.specs.Steps.Accepted.{WellFormed}
use Rattle.graph.proofs.Laws.Accepted.{vertices_in, lists_in}
use Rattle.graph.proofs.Laws.Edge.{edge_up, edge_most, edge_order}

module _ {g : Graph} (f : WellFormed g) where
  pub vertices : (0 < g.n) × (g.n ≤ 64)
  vertices = vertices_in g.n f.vertices

  pub lists : (edges g ≤ 512) × ((length g.upper ≡ edges g) × (length g.lengths ≡ edges g))
  lists = lists_in g f.lists

  pub order : (e : ℕ) → e < edges g → (at g.lower e < at g.upper e) × (at g.upper e < g.n)
  order = edge_order g f.edges

  pub short : (e : ℕ) → e < edges g → at g.lengths e ≤ 65535
  short e l = edge_most g f.lengths (edge_up g e l)
