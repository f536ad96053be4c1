-- Document 02, W-203: what "no section can hold".
use Rattle.std.specs.Prelude.{ℕ, Bool, not, ◌&&◌, ◌||◌, List, length, leb}
use Rattle.arithmetic.specs.Bools.{all}
use Rattle.arithmetic.specs.Table.{at}

-- each number of a list is at most this one
abbrev pub at_most : ℕ → List ℕ → Bool
at_most most numbers = all (length numbers) (λ i. leb (at numbers i) most)

-- "13 for an end, root or parent above 255, a length above 65,535 or an amount above 4,294,967,295, which no section can hold"
abbrev pub edges_held : (a b lengths : List ℕ) → Bool
edges_held a b lengths = at_most 255 a && (at_most 255 b && at_most 65535 lengths)

abbrev pub tree_held : Bool → ℕ → List ℕ → Bool
tree_held tree root parents = not tree || (leb root 255 && at_most 255 parents)
