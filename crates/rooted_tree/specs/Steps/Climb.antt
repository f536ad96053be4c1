-- A walk from a vertex up to the root that adds up f: the law of every loop that walks up parents and counts or sums.
use Rattle.std.specs.Prelude.{ℕ}
use Rattle.rooted_tree.specs.Steps.Rooted.{path_sum}
use Rattle.rooted_tree.specs.Steps.Subtotal.{inner}

-- f summed over each x other than the root that y is below
abbrev pub climbed : (n r : ℕ) (p f : ℕ → ℕ) → ℕ → ℕ
climbed n r p f y = path_sum p n (λ x. inner r x (f x)) y
