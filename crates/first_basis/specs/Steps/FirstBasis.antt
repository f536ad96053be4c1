-- The first basis: the tables of a spanning tree, for the perturbed masses.
use Rattle.std.specs.Prelude.{ℕ, ◌^◌, ◌≤◌, ◌<◌, ◌≡◌, List, length}
use Rattle.arithmetic.specs.Sum.{sum}
use Rattle.arithmetic.specs.Table.{at}
use Rattle.arithmetic.specs.Mask.{mask}
use Rattle.rooted_tree.specs.Chain.{below}
use Rattle.rooted_tree.specs.Steps.Rooted.{Rooted}
use Rattle.graph.specs.Graph.{Graph, graph}
use Rattle.graph.specs.Steps.Accepted.{Accepted}
use Rattle.graph.specs.Steps.EdgeTree.{EdgeTree}

-- ---- the lengths above the vertices

-- every vertex but 0 has an edge
pub record CanMeasure (n : ℕ) (lengths edge out : List ℕ) : Type 0 where
  pub some : 0 < n
  pub few : n ≤ 64
  pub out_size : length out ≡ 64
  pub number : (x : ℕ) → x < n → (x ≡ 0 → ⊥) → at edge x < length lengths

-- the vertices before k, but 0, have the lengths of their edges
pub record LengthsAbove (lengths edge old new : List ℕ) (k : ℕ) : Type 0 where
  pub size : length new ≡ length old
  pub done : (x : ℕ) → x < k → (x ≡ 0 → ⊥) → at new x ≡ at lengths (at edge x)

-- ---- the perturbed masses
pub record CanPerturb (n first rest : ℕ) (masses out : List ℕ) : Type 0 where
  pub few : n ≤ 64
  pub first_few : first ≤ 64
  pub rest_few : rest ≤ 64
  pub masses_size : n ≤ length masses
  pub out_size : length out ≡ 64
  pub light : sum n (at masses) ≤ 2 ^ 24

-- the mask of the subtree of x
abbrev pub subtree_mask : ℕ → (ℕ → ℕ) → ℕ → ℕ
subtree_mask n p x = mask n (λ y. below p n y x)

pub record CanWeigh (n : ℕ) (parents mu nu supply demand masks : List ℕ) : Type 0 where
  pub few : n ≤ 64
  pub parents_size : length parents ≡ 64
  pub mu_size : n ≤ length mu
  pub nu_size : n ≤ length nu
  pub supply_size : length supply ≡ 64
  pub demand_size : length demand ≡ 64
  pub masks_size : length masks ≡ 64
  pub tree : Rooted n 0 (at parents)
  pub mu_light : sum n (at mu) ≤ 2 ^ 24
  pub nu_light : sum n (at nu) ≤ 2 ^ 24

-- ---- the basis

-- a graph that passed the checks, with a spanning tree, and two measures of equal totals
pub record CanStart (g : Graph) (mu nu parents edge : List ℕ) : Type 0 where
  pub accepted : Accepted g
  pub tree : EdgeTree g 0 parents edge
  pub same : sum g.n (at mu) ≡ sum g.n (at nu)
  pub light : sum g.n (at mu) ≤ 2 ^ 24
  pub mu_size : length mu ≡ g.n
  pub nu_size : length nu ≡ g.n
  pub parents_size : length parents ≡ 64
  pub edge_size : length edge ≡ 64

-- the same of some ends of the edges
pub record StartInput (n : ℕ) (lengths mu nu parents edge : List ℕ) : Type 0 where
  pub a : List ℕ
  pub b : List ℕ
  pub can : CanStart (graph n a b lengths) mu nu parents edge
