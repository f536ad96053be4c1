-- The tree of shortest paths is a spanning tree, and its labels tell the distances from its root.
use Prim.Native.Nat.{ℕ, ◌+◌, ◌*◌, ◌≤◌, ◌<◌}
use mathlib.Core.Path.{◌≡◌, refl}
use mathlib.Core.Bool.{true}
use mathlib.Core.List.{List}
use mathlib.Core.Logic.{⊎_elim}
use native.Mathlib.Nat.{le_antisymm}
use native.Mathlib.Omega.{arith}
use Rattle.arithmetic.specs.Table.{at}
use Rattle.rooted_tree.specs.Chain.{depth}
use Rattle.rooted_tree.specs.Steps.Rooted.{Rooted}
use Rattle.rooted_tree.proofs.Laws.Rooted.{tree_ind, depth_root, depth-step, depth-lt}
use Rattle.graph.specs.Graph.{Graph, edges}
use Rattle.graph.specs.Checks.{edges_ok}
use Rattle.graph.specs.Distance.{distance}
use Rattle.graph.specs.Steps.Path.{Edge, Path, stay, step}
use Rattle.graph.specs.Steps.Accepted.{Accepted}
use Rattle.graph.specs.Steps.EdgeTree.{EdgeTree}
use Rattle.graph.proofs.Laws.Accepted.{vertices_in}
use Rattle.graph.proofs.Laws.Edge.{joins_ends, edge_turn, edge_in}
use Rattle.graph.proofs.Laws.EdgeTree.{Hung, rank_rooted, tree_of_rank}
use Rattle.graph.proofs.Laws.Distance.{distance_least}
use Rattle.path_labels.specs.Steps.Weight.{weight_of, FeasibleEdge}
use Rattle.path_labels.specs.Steps.ShortestPathTree.{ShortestPathTree}

-- along an edge the label rises by at most its weight
pub edge_within : (g : Graph) (label : ℕ → ℕ) → ((e : ℕ) → e < edges g → FeasibleEdge g label e)
    → {x y t : ℕ} (e : Edge g x y t) → label y ≤ label x + weight_of t
edge_within g label least {x} {y} e =
    let w = least e.number e.here in
    ⊎_elim
    (λ q. rw (q.0, q.1, e.size) at w.0)
    (λ q. rw (q.0, q.1, e.size) at w.1)
    (joins_ends g e.number x y e.ends)

module _ {g : Graph} {r : ℕ} {p s labels : List ℕ} (here : r < g.n) (ok : edges_ok g ≡ true) (t : ShortestPathTree g r p s labels) where
  -- the labels are a rank
  hung : (v : ℕ) → v < g.n → (v ≡ r → ⊥) → Hung g p s (at labels) v
  hung v l d = let h = t.hangs v l d in record { number = h.number; ends = h.ends; falls = omega (arith, h.tight) }

  pub edge_tree : EdgeTree g r p s
  edge_tree = tree_of_rank g r p s (at labels) here ok t.root hung

  rooted : Rooted g.n r (at p)
  rooted = rank_rooted g r p s (at labels) here ok t.root hung

  -- the tree's path to v, and its length
  along : (v : ℕ) → v < g.n → (l : ℕ) × (Path g r v l × (at labels v ≡ 128 * l + depth (at p) r g.n v))
  along =
      tree_ind rooted (λ v. (l : ℕ) × (Path g r v l × (at labels v ≡ 128 * l + depth (at p) r g.n v)))
      (0, (stay, omega (arith, t.origin, depth_root rooted)))
      (λ v l d h.
      let k = t.hangs v l d in
      let e : Edge g v (at p v) (at g.lengths (at s v)) = record { number = at s v; here = k.number; ends = k.ends; size = refl } in (
        h.0 + at g.lengths (at s v),
        (step h.1.0 (edge_turn g e), omega (arith, h.1.1, k.tight, depth-step rooted v l d)),
      ))

  module _ (few : g.n ≤ 64) where
    -- no path is shorter
    shortest : {u v m : ℕ} → Path g u v m → u ≡ r → (l : v < g.n) → (along v l).0 ≤ m
    shortest {v = v} stay e l = omega (arith, (along v l).1.1, rw (← e) at t.origin)
    shortest (step {x = x} {y = y} {t = m} q e) f l =
        let lx = (edge_in g ok e).0 in
        omega (
          arith,
          shortest q f lx,
          (along x lx).1.1,
          (along y l).1.1,
          depth-lt rooted x lx,
          edge_within g (at labels) t.least e,
        )

-- what the tree's labels mean (nothing cites this): a label tells the distance, and the depth in the tree
pub label_is : {g : Graph} {r : ℕ} {p s labels : List ℕ} → Accepted g → r < g.n → ShortestPathTree g r p s labels → (v : ℕ) → v < g.n
    → at labels v ≡ 128 * distance g r v + depth (at p) r g.n v
label_is {g} {r} a here t v l =
    let w = along here a.edges t v l in
    let d = distance_least g a r v here l in
    let e : distance g r v ≡ w.0 = le_antisymm (d.least _ w.1.0) (shortest here a.edges t (vertices_in g.n a.vertices).1 d.path refl l) in
    rw e w.1.1
