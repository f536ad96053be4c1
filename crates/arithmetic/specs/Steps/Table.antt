-- Lent tables: a list as a function, a function as a list, and what a call leaves in a table.
use Rattle.std.specs.Prelude.{List, ℕ, ◌+◌, ◌*◌, ◌<◌}
use Rattle.arithmetic.specs.Table.{at}

-- row i, column j of a table of rows of n
abbrev pub cell : ℕ → List ℕ → ℕ → ℕ → ℕ
cell n l i j = at l (i * n + j)

-- f is below k at each place before n
abbrev pub EachBelow : ℕ → (ℕ → ℕ) → ℕ → Type 0
EachBelow n f k = (x : ℕ) → x < n → f x < k
