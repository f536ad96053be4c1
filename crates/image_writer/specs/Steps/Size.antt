-- How long an image is, by its counts.
use Rattle.std.specs.Prelude.{ℕ, ◌+◌, ◌*◌, Bool, not, ◌&&◌, ◌||◌, eqb, leb}
use Rattle.arithmetic.specs.Sum.{pick}

-- the bytes of a tree of n vertices, or none
abbrev pub tree_size : ℕ → Bool → ℕ
tree_size n tree = pick tree (n + 1)

-- the bytes of the image of n vertices, m edges and a tree, if there is one
abbrev pub image_size : ℕ → ℕ → Bool → ℕ
image_size n m tree = 36 + 4 * m + 8 * n + tree_size n tree

-- what check 2 asks of paintings and parents of these lengths, and of the room in a buffer
abbrev pub lengths_fit : (n m mu nu : ℕ) (tree : Bool) (parents room : ℕ) → Bool
lengths_fit n m mu nu tree parents room = eqb mu n && (eqb nu n && ((not tree || eqb parents n) && leb (image_size n m tree) room))
