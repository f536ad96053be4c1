-- Rooted trees given by parents, the relation "is below" and the depth.
use Rattle.std.specs.Prelude.{◌≡◌, ℕ, ◌<◌}
use Rattle.arithmetic.specs.Sum.{pick, sum}
use Rattle.rooted_tree.specs.Chain.{climb, below}

-- p gives the parents of a tree on the vertices below n, with the root r, its own parent
pub record Rooted (n r : ℕ) (p : ℕ → ℕ) : Type 0 where
  pub root : r < n
  pub stay : p r ≡ r
  pub into : (y : ℕ) → y < n → p y < n
  pub up : (y : ℕ) → y < n → climb p n y ≡ r

-- f summed over the vertices above y: y, its parent and so on up to the root
abbrev pub path_sum : (ℕ → ℕ) → ℕ → (ℕ → ℕ) → ℕ → ℕ
path_sum p n f y = sum n (λ x. pick (below p n y x) (f x))
