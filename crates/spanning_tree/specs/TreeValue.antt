-- What a tree by value holds.
use Rattle.std.specs.Prelude.{ℕ, List, ltb}
use Rattle.arithmetic.specs.Sum.{pick}
use Rattle.arithmetic.specs.Table.{at, tab}

-- "sixty-four parents; places from n on hold 0"
abbrev pub parents_held : ℕ → List ℕ → List ℕ
parents_held n parents = tab 64 (λ x. pick (ltb x n) (at parents x))
