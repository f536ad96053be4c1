-- The search: the first basis is improved by pivots until the potential violates no edge; what is left is a certificate.
use Rattle.std.specs.Prelude.{ℕ, ◌^◌, ◌<◌, ◌≡◌, List, length}
use Rattle.arithmetic.specs.Table.{at}
use Rattle.arithmetic.specs.Steps.Table.{EachBelow}
use Rattle.graph.specs.Graph.{Graph, edges, edge_length}
use Rattle.graph.specs.Steps.Accepted.{Accepted}
use Rattle.tree_pivot.specs.Steps.Basis.{IsBasis, Tables}
use Rattle.tree_pivot.specs.Steps.PivotBasis.{CheaperBasis}
use Rattle.duality.specs.Steps.Best.{Certificate}
use Rattle.pricing.specs.Steps.Entering.{violation_at}

-- a graph that passed the checks, and a basis of some masses on it
pub record CanSearch (g : Graph) (t : Tables) : Type 0 where
  pub accepted : Accepted g
  pub m : ℕ → ℕ
  pub v : ℕ → ℕ
  pub basis : IsBasis g m v t

-- whatever masses the tables are a basis of, they have become a cheaper one
abbrev pub Improved : Graph → (t t' : Tables) → Type 0
Improved g t t' = (m v : ℕ → ℕ) → IsBasis g m v t → CheaperBasis g m v t t'

-- a basis whose potential violates no edge
pub record Optimal (g : Graph) (m v : ℕ → ℕ) (t : Tables) : Type 0 where
  pub basis : IsBasis g m v t
  pub within : (e : ℕ) → e < edges g → violation_at g t.potential e ≡ 0

-- whatever masses the tables are a basis of, they have become an optimal one
abbrev pub Optimized : Graph → (t t' : Tables) → Type 0
Optimized g t t' = (m v : ℕ → ℕ) → IsBasis g m v t → Optimal g m v t'

-- ---- the certificate

-- a best tree with root 0 by value, and in tables of 64 places the lengths above its vertices and its potential
pub record BestTree (g : Graph) (mu nu : ℕ → ℕ) (n r : ℕ) (parents above potential : List ℕ) : Type 0 where
  pub vertices_are : n ≡ g.n
  pub root_is : r ≡ 0
  pub certificate : Certificate g mu nu (at parents) (at potential)
  pub above_size : length above ≡ 64
  pub above_is : (x : ℕ) → x < g.n → (x ≡ 0 → ⊥) → at above x ≡ edge_length g x (at parents x)
  pub potential_size : length potential ≡ 64
  pub small : EachBelow g.n (at potential) (2 ^ 24)
