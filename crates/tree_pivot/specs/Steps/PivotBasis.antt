-- The pivot of a basis: the tables of the old tree become those of the new one.
use Rattle.std.specs.Prelude.{◌≡◌, Bool, true, ℕ, ◌<◌}
use Rattle.arithmetic.specs.Table.{at}
use Rattle.rooted_tree.specs.Chain.{below}
use Rattle.rooted_tree.specs.Steps.Flow.{flow_cost}
use Rattle.graph.specs.Graph.{Graph, joined, edge_length}
use Rattle.tree_pivot.specs.Steps.PivotPotential.{Enters}
use Rattle.tree_pivot.specs.Steps.Basis.{Tables, IsBasis}

-- j is above a and above b
pub record CommonAncestor (n : ℕ) (p : ℕ → ℕ) (a b j : ℕ) : Type 0 where
  pub low : j < n
  pub over_a : below p n a j ≡ true
  pub over_b : below p n b j ≡ true

-- the edge between a and b, of length `long`, enters the tree, and the edge above c leaves it
pub record CanPivot (g : Graph) (m v : ℕ → ℕ) (a b c long : ℕ) (rises : Bool) (t : Tables) : Type 0 where
  pub basis : IsBasis g m v t
  pub a_low : a < g.n
  pub b_low : b < g.n
  pub edge : joined g a b ≡ true
  pub length_is : long ≡ edge_length g a b
  pub enters : Enters rises g.n (at t.parents) m v (at t.potential) a b c long

-- the cost of the flow on the tree of g
abbrev pub basis_flow_cost : (g : Graph) → (m v : ℕ → ℕ) → Tables → ℕ
basis_flow_cost g m v t = flow_cost g.n 0 (at t.parents) (λ x. edge_length g x (at t.parents x)) m v

-- the basis has become a cheaper one of the same graph and masses
pub record CheaperBasis (g : Graph) (m v : ℕ → ℕ) (t t' : Tables) : Type 0 where
  pub basis : IsBasis g m v t'
  pub cheaper : basis_flow_cost g m v t' < basis_flow_cost g m v t
