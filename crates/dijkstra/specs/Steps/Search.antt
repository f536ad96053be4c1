-- The search from a vertex s: the labels, and the frontier w.
use Rattle.std.specs.Prelude.{ℕ, ◌+◌, ◌*◌, ◌≤◌, ◌<◌, ◌≡◌, Bool, true, not, ◌&&◌, List, ltb, length}
use Rattle.arithmetic.specs.Sum.{sum, pick}
use Rattle.arithmetic.specs.Table.{at}
use Rattle.arithmetic.specs.Steps.Mask.{bit}
use Rattle.graph.specs.Graph.{Graph, edges}
use Rattle.graph.specs.Checks.{connected}
use Rattle.graph.specs.Distance.{distance}
use Rattle.graph.specs.Steps.Path.{Edge, Path}
use Rattle.graph.specs.Steps.Accepted.{WellFormed}
use Rattle.forward_star.specs.Steps.Linked.{tail, Linked}
use Rattle.path_labels.specs.Steps.Weight.{unreached}
use Rattle.dijkstra.specs.Steps.Relaxing.{IsWord}

-- a graph that passed checks 1 to 4, and a vertex of it
pub record CanSearch (g : Graph) (s : ℕ) : Type 0 where
  pub formed : WellFormed g
  pub start_in : s < g.n

-- and the arcs of its edges, linked by where they start
pub record CanSearchLinked (g : Graph) (s : ℕ) (last before : List ℕ) : Type 0 where
  pub can : CanSearch g s
  pub linked : Linked (tail g.lower g.upper) (2 * edges g) last before

-- v is reached, and no longer in the frontier
abbrev pub settled : ℕ → (ℕ → ℕ) → ℕ → Bool
settled w label v = ltb (label v) unreached && not (bit w v)

-- how many vertices are still to be settled
abbrev pub unsettled : ℕ → ℕ → (ℕ → ℕ) → ℕ
unsettled n w label = sum n (λ v. pick (not (settled w label v)) 1)

-- a label is the length of a path; what is settled is no farther than the frontier, and no edge from it can lower a label; a path has no more edges than there are
-- settled vertices
pub record Searching (g : Graph) (s w : ℕ) (label : ℕ → ℕ) : Type 0 where
  pub word : IsWord w
  pub origin : label s ≡ 0
  pub inside : (v : ℕ) → v < 64 → bit w v ≡ true → (v < g.n) × (label v < unreached)
  pub path : (v : ℕ) → v < g.n → label v < unreached → Path g s v (label v)
  pub ordered : (x v : ℕ) → x < g.n → settled w label x ≡ true → v < 64 → bit w v ≡ true → label x ≤ label v
  pub feasible : (x y t : ℕ) → settled w label x ≡ true → Edge g x y t → label y ≤ label x + t
  pub light : (v : ℕ) → v < g.n → label v < unreached → label v + unsettled g.n w label * 65535 ≤ g.n * 65535

-- all says whether the graph is connected, and if so, the table has the distances from s
pub record Found (g : Graph) (s : ℕ) (all : Bool) (table : List ℕ) : Type 0 where
  pub size : length table ≡ 64
  pub connects : all ≡ connected g
  pub each : all ≡ true → (v : ℕ) → v < g.n → at table v ≡ distance g s v
