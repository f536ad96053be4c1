-- The mass of a subtree, and summation by parts on a tree.
use Rattle.std.specs.Prelude.{not, ℕ, eqb}
use Rattle.arithmetic.specs.Sum.{pick, sum}
use Rattle.rooted_tree.specs.Chain.{below}

-- the total of m over the vertices below x
unfoldable pub subtotal : (ℕ → ℕ) → ℕ → (ℕ → ℕ) → ℕ → ℕ
subtotal p n m x = sum n (λ y. pick (below p n y x) (m y))

-- v at every vertex but the root r
abbrev pub inner : ℕ → ℕ → ℕ → ℕ
inner r x v = pick (not (eqb x r)) v
