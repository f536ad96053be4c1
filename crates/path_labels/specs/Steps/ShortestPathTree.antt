-- The tree of shortest paths from a vertex r: a table p of parents, a table s of the numbers of the edges to them, and a table of labels.
use Rattle.std.specs.Prelude.{ℕ, ◌+◌, ◌≤◌, ◌<◌, ◌≡◌, Bool, true, false, List, length}
use Rattle.arithmetic.specs.Table.{at}
use Rattle.graph.specs.Graph.{Graph, edges, joins}
use Rattle.graph.specs.Steps.Path.{Path}
use Rattle.graph.specs.Steps.Accepted.{WellFormed}
use Rattle.path_labels.specs.Steps.Weight.{weight_of, unreached, FeasibleEdge}

-- v hangs on its parent by an edge that accounts for its label
pub record Tight (g : Graph) (p s labels : List ℕ) (v : ℕ) : Type 0 where
  pub number : at s v < edges g
  pub ends : joins g (at s v) v (at p v) ≡ true
  pub tight : at labels v ≡ at labels (at p v) + weight_of (at g.lengths (at s v))

-- the labels are the weights of the tree's paths from r, and keep to Bellman's equations: no path is lighter
pub record ShortestPathTree (g : Graph) (r : ℕ) (p s labels : List ℕ) : Type 0 where
  pub root : at p r ≡ r
  pub origin : at labels r ≡ 0
  pub hangs : (v : ℕ) → v < g.n → (v ≡ r → ⊥) → Tight g p s labels v
  pub least : (e : ℕ) → e < edges g → FeasibleEdge g (at labels) e
  pub most : (v : ℕ) → v < g.n → at labels v < unreached

-- three tables of at least 64 places
abbrev pub Wide : List ℕ → List ℕ → List ℕ → Type 0
Wide p s labels = (64 ≤ length p) × ((64 ≤ length s) × (64 ≤ length labels))

-- a graph that passed checks 1 to 4, and a vertex of it
pub record CanFindPaths (g : Graph) (r : ℕ) (p s labels : List ℕ) : Type 0 where
  pub formed : WellFormed g
  pub start_in : r < g.n
  pub wide : Wide p s labels

-- all says whether every vertex can be reached from r, and if so, the tables hold the tree
pub record Searched (g : Graph) (r : ℕ) (all : Bool) (p s labels : List ℕ) : Type 0 where
  pub tree : all ≡ true → ShortestPathTree g r p s labels
  pub reached : all ≡ true → (v : ℕ) → v < g.n → (t : ℕ) × Path g r v t
  pub missed : all ≡ false → (v : ℕ) × ((v < g.n) × ((t : ℕ) → Path g r v t → ⊥))
