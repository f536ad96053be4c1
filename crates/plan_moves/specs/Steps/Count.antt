-- What the functions that count moves say of a row and of an entry.
use Rattle.std.specs.Prelude.{ℕ, Bool, not, ◌&&◌, eqb, ltb}
use Rattle.arithmetic.specs.Sum.{pick}

-- 1 where i sends anything to j, else 0
unfoldable pub positive_at : (ℕ → ℕ → ℕ) → ℕ → ℕ → ℕ
positive_at t i j = pick (ltb 0 (t i j)) 1

-- whether what i sends to j is a move
abbrev pub is_move : (ℕ → ℕ → ℕ) → ℕ → ℕ → Bool
is_move t i j = not (eqb i j) && ltb 0 (t i j)

-- 1 where what i sends to j is a move, else 0
unfoldable pub move_at : (ℕ → ℕ → ℕ) → ℕ → ℕ → ℕ
move_at t i j = pick (is_move t i j) 1
