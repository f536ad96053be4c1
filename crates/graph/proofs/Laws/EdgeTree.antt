-- Spanning trees by tables: a table p of parents, and a table s of the numbers of the edges to them.
use Prim.Native.Nat.{ℕ, ◌<◌}
use mathlib.Core.Path.{◌≡◌, refl}
use mathlib.Core.Bool.{true}
use mathlib.Core.List.{List}
use Rattle.arithmetic.specs.Table.{at}
use Rattle.arithmetic.proofs.Laws.Bools.{case≡}
use Rattle.rooted_tree.specs.Steps.Rooted.{Rooted}
use Rattle.rooted_tree.proofs.Laws.Rooted.{rooted_of_rank}
use Rattle.graph.specs.Graph.{Graph, edges, joins}
use Rattle.graph.specs.Checks.{edges_ok}
use Rattle.graph.specs.Steps.Path.{Edge}
use Rattle.graph.specs.Steps.EdgeTree.{EdgeTree}
use Rattle.graph.proofs.Laws.Edge.{edge_joined, edge_in}

-- v hangs on its parent by an edge, and a rank falls along it
pub record Hung (g : Graph) (p s : List ℕ) (rank : ℕ → ℕ) (v : ℕ) : Type 0 where
  pub number : at s v < edges g
  pub ends : joins g (at s v) v (at p v) ≡ true
  pub falls : rank (at p v) < rank v

-- where each vertex but the root hangs, the tables make a spanning tree
module _ (g : Graph) (r : ℕ) (p s : List ℕ) (rank : ℕ → ℕ) (some : r < g.n) (ok : edges_ok g ≡ true) (root : at p r ≡ r)
    (hung : (v : ℕ) → v < g.n → (v ≡ r → ⊥) → Hung g p s rank v) where
  parent_edge : (v : ℕ) → v < g.n → (v ≡ r → ⊥) → Edge g v (at p v) (at g.lengths (at s v))
  parent_edge v l d = let h = hung v l d in record { number = at s v; here = h.number; ends = h.ends; size = refl }

  into : (v : ℕ) → v < g.n → at p v < g.n
  into v l = case≡ v r (λ e. rw (e, root) some) (λ d. (edge_in g ok (parent_edge v l d)).1.0)

  pub rank_rooted : Rooted g.n r (at p)
  rank_rooted = rooted_of_rank g.n r (at p) rank some root into (λ v l d. (hung v l d).falls)

  pub tree_of_rank : EdgeTree g r p s
  tree_of_rank = record {
    tree = record {
      root = some;
      stay = root;
      edge = λ v l d. edge_joined g (parent_edge v l d);
      chain = λ v l. (g.n, rank_rooted.up v l);
    };
    into = into;
    number = λ v l d. (hung v l d).number;
    ends = λ v l d. (hung v l d).ends;
  }
