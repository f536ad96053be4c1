-- A basis, which a pivot turns into another: a spanning tree with root 0, and what is kept of each vertex.
use Rattle.std.specs.Prelude.{ℕ, ◌^◌, ◌≤◌, ◌<◌, ◌≡◌, true, List, length}
use Rattle.arithmetic.specs.Sum.{sum}
use Rattle.arithmetic.specs.Table.{at}
use Rattle.rooted_tree.specs.Steps.Rooted.{Rooted}
use Rattle.rooted_tree.specs.Steps.Subtotal.{subtotal}
use Rattle.graph.specs.Graph.{Graph, graph, joined, edge_length}
use Rattle.tree_pivot.specs.declared.Basis.{Basis}
use Rattle.tree_pivot.specs.Steps.PivotTables.{Totals}
use Rattle.tree_pivot.specs.Steps.SubtreeMasks.{Masks}
use Rattle.tree_pivot.specs.Steps.PivotCost.{Potential}

-- what is kept of each vertex, in tables of which the first n places count: its parent, the length of the edge above it, both masses below it, the mask of its
-- subtree and its potential
pub record Tables : Type 0 where
  pub parents : List ℕ
  pub above : List ℕ
  pub supply : List ℕ
  pub demand : List ℕ
  pub masks : List ℕ
  pub potential : List ℕ

abbrev pub tables : (parents above supply demand masks potential : List ℕ) → Tables
tables parents above supply demand masks potential =
    record { parents = parents; above = above; supply = supply; demand = demand; masks = masks; potential = potential }

-- those of a basis as the code has it
abbrev pub tables_of : Basis → Tables
tables_of b = tables b.parents b.above b.subtrees.supply b.subtrees.demand b.subtrees.masks b.potential

-- each has 64 places
pub record Places (t : Tables) : Type 0 where
  pub parents : length t.parents ≡ 64
  pub above : length t.above ≡ 64
  pub supply : length t.supply ≡ 64
  pub demand : length t.demand ≡ 64
  pub masks : length t.masks ≡ 64
  pub potential : length t.potential ≡ 64

-- what a pivot asks of the graph and of the masses m and v that a basis balances
pub record Network (g : Graph) (m v : ℕ → ℕ) : Type 0 where
  pub few : g.n ≤ 64
  pub symmetric : (x y : ℕ) → edge_length g x y ≡ edge_length g y x
  pub short : (x y : ℕ) → edge_length g x y ≤ 65535
  pub joined_back : (x y : ℕ) → joined g x y ≡ true → joined g y x ≡ true
  pub light : sum g.n m ≤ 2 ^ 32
  -- no subtree of any tree is balanced
  pub unbalanced : (p : ℕ → ℕ) → Rooted g.n 0 p → (x : ℕ) → x < g.n → (x ≡ 0 → ⊥) → subtotal p g.n m x ≡ subtotal p g.n v x → ⊥

-- the offset of the potential: no potential of a tree falls below 0
abbrev pub ground_potential : ℕ
ground_potential = 2 ^ 23

pub record IsBasis (g : Graph) (m v : ℕ → ℕ) (t : Tables) : Type 0 where
  pub network : Network g m v
  pub places : Places t
  pub tree : Rooted g.n 0 (at t.parents)
  pub edge : (x : ℕ) → x < g.n → (x ≡ 0 → ⊥) → joined g x (at t.parents x) ≡ true
  pub above_is : (x : ℕ) → x < g.n → (x ≡ 0 → ⊥) → at t.above x ≡ edge_length g x (at t.parents x)
  pub supply_is : Totals g.n (at t.parents) m t.supply
  pub demand_is : Totals g.n (at t.parents) v t.demand
  pub masks_are : Masks g.n (at t.parents) t.masks
  pub balances : Potential g.n 0 (at t.parents) (edge_length g) m v (at t.potential)
  pub grounded : at t.potential 0 ≡ ground_potential

-- P holds of some graph with n vertices and some masses
pub record Some (n : ℕ) (P : Graph → (ℕ → ℕ) → (ℕ → ℕ) → Type 0) : Type 0 where
  pub lower : List ℕ
  pub upper : List ℕ
  pub lengths : List ℕ
  pub m : ℕ → ℕ
  pub v : ℕ → ℕ
  pub holds : P (graph n lower upper lengths) m v

-- P holds of all such graphs and masses
abbrev pub Every : ℕ → (Graph → (ℕ → ℕ) → (ℕ → ℕ) → Type 0) → Type 0
Every n P = (lower upper lengths : List ℕ) (m v : ℕ → ℕ) → P (graph n lower upper lengths) m v
