-- The cost of the flow on a tree, and potentials: weak and strong duality.
use Rattle.std.specs.Prelude.{ℕ, ◌*◌}
use Rattle.arithmetic.specs.Sum.{sum}
use Rattle.arithmetic.specs.Steps.Product.{gap}
use Rattle.rooted_tree.specs.Steps.Subtotal.{subtotal, inner}

-- what it costs to move m to v along the edges of the tree, of length l x above x
unfoldable pub flow_cost : ℕ → ℕ → (ℕ → ℕ) → (ℕ → ℕ) → (ℕ → ℕ) → (ℕ → ℕ) → ℕ
flow_cost n r p l m v = sum n (λ x. inner r x (l x * gap (subtotal p n m x) (subtotal p n v x)))
