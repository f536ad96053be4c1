-- An n × n table that fills the first places of a lent list, and what a store makes of it.
use Rattle.std.specs.Prelude.{List, ◌++◌, ℕ, ◌*◌, drop}
use Rattle.arithmetic.specs.Table.{matrix}

-- f's table, and the rest as lent
abbrev pub filled : ℕ → (ℕ → ℕ → ℕ) → List ℕ → List ℕ
filled n f lent = matrix n f ++ drop (n * n) lent
