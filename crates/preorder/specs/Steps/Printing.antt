-- Printing a tree: what its printers ask, and the parts of its page that they write.
use Rattle.std.specs.Prelude.{ℕ, ◌+◌, ◌-◌, ◌≤◌, ◌<◌, ◌^◌, cond, ◌≡◌, List, [], ℤ, pos, length, get_or}
use Rattle.std.specs.Int.Signed.{mag}
use Rattle.arithmetic.specs.Table.{at, appended}
use Rattle.rooted_tree.specs.Chain.{depth, is_child}
use Rattle.rooted_tree.specs.Steps.Rooted.{Rooted}
use Rattle.preorder.specs.Preorder.{preorder, lines, line_of}

-- what tables say of a vertex
abbrev pub figure : List ℤ → ℕ → ℤ
figure l v = get_or l v (pos 0)

-- a tree in tables, with two figures of 32 bits for each vertex
pub record Printable (n r : ℕ) (parents : List ℕ) (imbalances potentials : List ℤ) : Type 0 where
  pub few : n ≤ 64
  pub tree : Rooted n r (at parents)
  pub long_parents : n ≤ length parents
  pub long_imbalances : n ≤ length imbalances
  pub long_potentials : n ≤ length potentials
  pub imbalances_fit : (x : ℕ) → x < n → mag (figure imbalances x) < 2 ^ 31
  pub potentials_fit : (x : ℕ) → x < n → mag (figure potentials x) < 2 ^ 31

-- v is a vertex at depth d
pub record Placed (n r : ℕ) (p : ℕ → ℕ) (d v : ℕ) : Type 0 where
  pub vertex : v < n
  pub level : d ≡ depth p r n v

-- v, at depth d, and what is below it: no more than n - d levels
abbrev pub subtree_order : ℕ → ℕ → (ℕ → ℕ) → ℕ → ℕ → List ℕ
subtree_order n r p d v = preorder n r p (n - d) v

-- what is below v by way of its children below m
abbrev pub children_order : ℕ → ℕ → (ℕ → ℕ) → ℕ → ℕ → ℕ → List ℕ
children_order n r p d v m = appended m (λ c. cond (is_child r p v c) (preorder n r p (n - (d + 1)) c) [])

-- their lines
abbrev pub subtree_page : ℕ → ℕ → (ℕ → ℕ) → (ℕ → ℤ) → (ℕ → ℤ) → ℕ → ℕ → List ℕ
subtree_page n r p i u d v = lines (line_of n r p i u) (subtree_order n r p d v)

abbrev pub children_page : ℕ → ℕ → (ℕ → ℕ) → (ℕ → ℤ) → (ℕ → ℤ) → ℕ → ℕ → ℕ → List ℕ
children_page n r p i u d v m = lines (line_of n r p i u) (children_order n r p d v m)
