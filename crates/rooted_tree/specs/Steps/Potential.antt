-- The potential of a tree with a length l above each vertex, over two tests: where `up` holds a vertex is by its length higher than its
-- parent, where `down` holds lower.
use Rattle.std.specs.Prelude.{Bool, ℕ}
use Rattle.arithmetic.specs.Sum.{pick}
use Rattle.rooted_tree.specs.Steps.Climb.{climbed}

-- the lengths above y, y's own among them, where the test holds
abbrev pub lengths_where : (n r : ℕ) (p l : ℕ → ℕ) (test : ℕ → Bool) → ℕ → ℕ
lengths_where n r p l test = climbed n r p (λ x. pick (test x) (l x))
