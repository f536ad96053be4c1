-- Document 01, "The patch": a weighted undirected graph, and its edges.
use Rattle.std.specs.Prelude.{ℕ, Bool, ◌&&◌, ◌||◌, List, length, eqb}
use Rattle.arithmetic.specs.Bools.{any}
use Rattle.arithmetic.specs.Sum.{sum, pick}
use Rattle.arithmetic.specs.Table.{at}
use Rattle.graph.specs.declared.edges.Graph as lent

-- document 01's patch: n vertices, 0 to n - 1, and its edges in three lists. Edge e has the lower end `at lower e`, the upper end
-- `at upper e` and the length `at lengths e`
pub record Graph : Type 0 where
  pub n : ℕ
  pub lower : List ℕ
  pub upper : List ℕ
  pub lengths : List ℕ

abbrev pub graph : ℕ → List ℕ → List ℕ → List ℕ → Graph
graph n a b l = record { n = n; lower = a; upper = b; lengths = l }

-- the graph in the lists that a caller lends
abbrev pub graph_of : lent.Graph → Graph
graph_of g = graph g.n g.a.now g.b.now g.lengths.now

-- m, the number of edges
abbrev pub edges : Graph → ℕ
edges g = length g.lower

-- edge e joins x and y
abbrev pub joins : Graph → ℕ → ℕ → ℕ → Bool
joins g e x y = (eqb (at g.lower e) x && eqb (at g.upper e) y) || (eqb (at g.lower e) y && eqb (at g.upper e) x)

-- x and y share an edge
unfoldable pub joined : Graph → ℕ → ℕ → Bool
joined g x y = any (edges g) (λ e. joins g e x y)

-- the length of the edge between x and y: no pair comes twice, so the sum has one term
unfoldable pub edge_length : Graph → ℕ → ℕ → ℕ
edge_length g x y = sum (edges g) (λ e. pick (joins g e x y) (at g.lengths e))
