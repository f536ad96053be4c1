-- Labelled trees, and what the relaxing of edges does to them: a table p of parents, a table s of the numbers of the edges to the parents,
-- and a table of labels.
use Rattle.std.specs.Prelude.{ℕ, ◌+◌, ◌≤◌, ◌<◌, ◌≡◌, Bool, true, false, List, length, set, ltb}
use Rattle.arithmetic.specs.Sum.{sum, pick}
use Rattle.arithmetic.specs.Table.{at}
use Rattle.graph.specs.Graph.{Graph, graph, edges, joins}
use Rattle.path_labels.specs.Steps.Weight.{weight_of, unreached, Feasible, FeasibleEdge}
use Rattle.path_labels.specs.Steps.ShortestPathTree.{Wide, CanFindPaths}

-- what a store leaves, made or not
abbrev pub put : Bool → List ℕ → ℕ → ℕ → List ℕ
put true l i x = set l i x
put false l i x = l

-- v hangs on its parent by an edge, and its label is no less than the parent's and the edge's weight
pub record Hangs (g : Graph) (p s labels : List ℕ) (v : ℕ) : Type 0 where
  pub number : at s v < edges g
  pub ends : joins g (at s v) v (at p v) ≡ true
  pub covers : at labels (at p v) + weight_of (at g.lengths (at s v)) ≤ at labels v

-- r is its own parent, with label 0; labels fall from each other vertex to its parent, and one that is reached hangs
pub record Labelled (g : Graph) (r : ℕ) (p s labels : List ℕ) : Type 0 where
  pub can : CanFindPaths g r p s labels
  pub root : at p r ≡ r
  pub origin : at labels r ≡ 0
  pub most : (v : ℕ) → v < g.n → at labels v ≤ unreached
  pub into : (v : ℕ) → v < g.n → at p v < g.n
  pub falls : (v : ℕ) → v < g.n → (v ≡ r → ⊥) → at labels (at p v) < at labels v
  pub hangs : (v : ℕ) → v < g.n → (v ≡ r → ⊥) → at labels v < unreached → Hangs g p s labels v

-- r alone is reached, and all hang on it
pub record Initialized (r : ℕ) (p labels p' labels' : List ℕ) : Type 0 where
  pub parents_size : length p' ≡ length p
  pub labels_size : length labels' ≡ length labels
  pub parents : (v : ℕ) → v < 64 → at p' v ≡ r
  pub origin : at labels' r ≡ 0
  pub others : (v : ℕ) → v < 64 → (v ≡ r → ⊥) → at labels' v ≡ unreached

-- edge e goes from a vertex to a vertex, with a weight that the label of the first has room for
pub record CanRelax (from to lengths : List ℕ) (e : ℕ) (p s labels : List ℕ) : Type 0 where
  pub number : e < 512
  pub listed : (e < length from) × ((e < length to) × (e < length lengths))
  pub ends : (at from e < 64) × (at to e < 64)
  pub short : at lengths e ≤ 65535
  pub wide : Wide p s labels
  pub most : at labels (at from e) ≤ unreached

-- y is hung on x along edge e, of weight w, if that lowers its label
pub record Relaxed (x y e w : ℕ) (p s labels : List ℕ) (r : Bool) (p' s' labels' : List ℕ) : Type 0 where
  pub did : r ≡ ltb (at labels x + w) (at labels y)
  pub parents : p' ≡ put r p y x
  pub edges : s' ≡ put r s y e
  pub lowered : labels' ≡ put r labels y (at labels x + w)

-- the edges from number lo up to hi are relaxed from one list's ends to the other's: r says whether a label was lowered; now none of them can lower one
pub record Swept (g : Graph) (root : ℕ) (from to : List ℕ) (lo hi : ℕ) (p s labels : List ℕ) (r : Bool) (p' s' labels' : List ℕ) : Type 0 where
  pub labelled : Labelled g root p' s' labels'
  pub less : sum g.n (at labels') + pick r 1 ≤ sum g.n (at labels)
  pub same : r ≡ false → labels' ≡ labels
  pub feasible : (e : ℕ) → lo ≤ e → e < hi → Feasible from to g.lengths (at labels') e

-- the tables are labelled, from some vertex of a graph with these edges
abbrev pub SomeLabelled : (a b lengths p s labels : List ℕ) → Type 0
SomeLabelled a b lengths p s labels = (n : ℕ) × ((r : ℕ) × Labelled (graph n a b lengths) r p s labels)

-- of every such graph and vertex: the edges below number i are relaxed upward
abbrev pub SweepsUp : (a b lengths : List ℕ) (i : ℕ) (p s labels : List ℕ) (r : Bool) (p' s' labels' : List ℕ) → Type 0
SweepsUp a b lengths i p s labels r p' s' labels' =
    (n root : ℕ) → Labelled (graph n a b lengths) root p s labels → Swept (graph n a b lengths) root a b 0 i p s labels r p' s' labels'

-- and the edges from number i on are relaxed downward
abbrev pub SweepsDown : (a b lengths : List ℕ) (i : ℕ) (p s labels : List ℕ) (r : Bool) (p' s' labels' : List ℕ) → Type 0
SweepsDown a b lengths i p s labels r p' s' labels' =
    (n root : ℕ) → Labelled (graph n a b lengths) root p s labels → Swept (graph n a b lengths) root b a i (length a) p s labels r p' s' labels'

-- no edge can lower a label upward
abbrev pub FeasibleUp : (a b lengths labels : List ℕ) → Type 0
FeasibleUp a b lengths labels = (e : ℕ) → e < length a → Feasible a b lengths (at labels) e

-- a round of sweeps: r says whether each of them lowered a label; if not, no edge can lower one
pub record Rounded (g : Graph) (root : ℕ) (labels : List ℕ) (r : Bool) (p' s' labels' : List ℕ) : Type 0 where
  pub labelled : Labelled g root p' s' labels'
  pub less : sum g.n (at labels') + pick r 1 ≤ sum g.n (at labels)
  pub up : FeasibleUp g.lower g.upper g.lengths labels'
  pub closed : r ≡ false → (e : ℕ) → e < edges g → FeasibleEdge g (at labels') e

-- the same of every graph with these edges and every vertex
abbrev pub Rounds : (a b lengths p s labels : List ℕ) (r : Bool) (p' s' labels' : List ℕ) → Type 0
Rounds a b lengths p s labels r p' s' labels' =
    (n root : ℕ) → Labelled (graph n a b lengths) root p s labels → Rounded (graph n a b lengths) root labels r p' s' labels'
