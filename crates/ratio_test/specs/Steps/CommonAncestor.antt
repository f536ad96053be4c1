-- The lowest common ancestor of two vertices of a tree.
use Rattle.std.specs.Prelude.{◌≡◌, true, List, ℕ, ◌≤◌, ◌<◌}
use Rattle.arithmetic.specs.Table.{at}
use Rattle.rooted_tree.specs.Chain.{below}
use Rattle.rooted_tree.specs.Steps.Rooted.{Rooted}
use Rattle.tree_pivot.specs.Steps.SubtreeMasks.{Masks}
use Rattle.tree_pivot.specs.Steps.PivotBasis.{CommonAncestor}

-- w is above s and t, and no vertex below w is
pub record LowestCommonAncestor (n : ℕ) (p : ℕ → ℕ) (s t w : ℕ) : Type 0 where
  pub common : CommonAncestor n p s t w
  pub lowest : (z : ℕ) → below p n s z ≡ true → below p n t z ≡ true → below p n w z ≡ true

-- the tree, with the mask of each subtree, and two vertices of it
pub record CanMeet (n : ℕ) (parents masks : List ℕ) (s t : ℕ) : Type 0 where
  pub few : n ≤ 64
  pub tree : Rooted n 0 (at parents)
  pub masks_are : Masks n (at parents) masks
  pub s_low : s < n
  pub t_low : t < n
