-- The entering edge, by Dantzig's rule in blocks: the one of a block of edges that the potential U violates the most, by changing along it by more than its length.
use Rattle.std.specs.Prelude.{◌≡◌, ℕ, ◌+◌, ◌*◌, ◌^◌, ◌<◌, ◌≤◌, ◌⊎◌, List, length, ◌≢◌, Option, MatchOption}
use Rattle.arithmetic.specs.Table.{at}
use Rattle.graph.specs.Graph.{Graph, edges}
use Rattle.tree_pivot.specs.Steps.PivotPotential.{violation}

-- the violation of edge e, by how much its reduced cost is below 0: what U changes along it beyond its length
abbrev pub violation_at : Graph → List ℕ → ℕ → ℕ
violation_at g U e = violation (at U (at g.lower e)) (at U (at g.upper e)) (at g.lengths e)

-- edge e is in block k
abbrev pub InBlock : ℕ → ℕ → Type 0
InBlock k e = (64 * k ≤ e) × (e < 64 * k + 64)

-- edge e has its ends among 64 vertices, and a length within the bound
pub record EdgeFits (g : Graph) (e : ℕ) : Type 0 where
  pub here : e < edges g
  pub upper_here : e < length g.upper
  pub length_here : e < length g.lengths
  pub lower_low : at g.lower e < 64
  pub upper_low : at g.upper e < 64
  pub short : at g.lengths e ≤ 65535

-- edge e goes from s to t, of which s has the higher potential
pub record Downhill (g : Graph) (U : List ℕ) (e s t long : ℕ) : Type 0 where
  pub ends : ((s ≡ at g.lower e) × (t ≡ at g.upper e)) ⊎ ((s ≡ at g.upper e) × (t ≡ at g.lower e))
  pub s_low : s < 64
  pub t_low : t < 64
  pub down : at U t ≤ at U s
  pub long_is : long ≡ at g.lengths e

-- ---- the largest violation

-- no key from place `low` to before `high` of m is above the level
abbrev pub Clear : (m : ℕ) → (key : ℕ → ℕ) → (level low high : ℕ) → Type 0
Clear m key level low high = (i : ℕ) → low ≤ i → i < high → i < m → key i ≤ level

-- e has the largest key of its block, and it is above the level; or no key from `low` to before `high` is above the level, and e is m
pub record Largest (m : ℕ) (key : ℕ → ℕ) (level low high e : ℕ) : Type 0 where
  pub none : e ≡ m → Clear m key level low high
  pub some : (e ≢ m) → (e < m) × (level < key e)
  pub most : (e ≢ m) → (k i : ℕ) → InBlock k e → InBlock k i → i < m → key i ≤ key e

-- e is the edge of its block that U violates the most; or U violates none, and e is the number of edges
abbrev pub MostViolated : Graph → List ℕ → ℕ → Type 0
MostViolated g U e = Largest (edges g) (violation_at g U) 0 0 (edges g) e

-- the same of an edge that is found, or of none
abbrev pub Found : (m : ℕ) → (key : ℕ → ℕ) → (level low high : ℕ) → Option ℕ → Type 0
Found m key level low high o = MatchOption o (Largest m key level low high m) (λ e. (e < m) × Largest m key level low high e)

abbrev pub Entering : Graph → List ℕ → Option ℕ → Type 0
Entering g U o = MatchOption o (MostViolated g U (edges g)) (λ e. (e < edges g) × MostViolated g U e)

-- ---- scaled potentials

-- s is u in units of 2 ^ 36, with less than a quarter of one beside it
pub record Scaled (u s : ℕ) : Type 0 where
  pub low : 2 ^ 36 * u ≤ s
  pub high : s < 2 ^ 36 * u + 2 ^ 34

-- S is the potential U of n vertices, scaled
pub record AllScaled (n : ℕ) (U S : List ℕ) : Type 0 where
  pub each : (x : ℕ) → x < n → Scaled (at U x) (at S x)

-- by how much S changes along edge e beyond its scaled length
abbrev pub scaled_violation : Graph → List ℕ → ℕ → ℕ
scaled_violation g S e = violation (at S (at g.lower e)) (at S (at g.upper e)) (2 ^ 36 * at g.lengths e)

-- an edge is violated if it is so by more than half a unit
abbrev pub half_unit : ℕ
half_unit = 2 ^ 35
