-- Subtree masks after a pivot: a mask is the subtotal of the masses 2 ^ y, so it moves as the other totals do.
use Rattle.std.specs.Prelude.{◌≡◌, List, ℕ, ◌<◌}
use Rattle.arithmetic.specs.Table.{at}
use Rattle.arithmetic.specs.Mask.{mask}
use Rattle.rooted_tree.specs.Chain.{below}

-- the table has the mask of each vertex's subtree
abbrev pub Masks : ℕ → (ℕ → ℕ) → List ℕ → Type 0
Masks n p t = (x : ℕ) → x < n → at t x ≡ mask n (λ y. below p n y x)
