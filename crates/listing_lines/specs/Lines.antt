-- Document 01, "listing": the lines that the program prints, byte for byte.
use Rattle.std.specs.Prelude.{ℕ, zero, suc, cond, List, [], ◌∷◌, ◌++◌, ltb}
use Rattle.decimal_text.specs.Decimal.{decimal}

-- a word, a space, a number and the end of the line
abbrev pub line : List ℕ → ℕ → List ℕ
line word x = word ++ (32 ∷ (decimal x ++ (10 ∷ [])))

-- `cost`, `moves`, `best` and `refused`
abbrev pub cost_word : List ℕ
cost_word = 99 ∷ 111 ∷ 115 ∷ 116 ∷ []

abbrev pub moves_word : List ℕ
moves_word = 109 ∷ 111 ∷ 118 ∷ 101 ∷ 115 ∷ []

abbrev pub best_word : List ℕ
best_word = 98 ∷ 101 ∷ 115 ∷ 116 ∷ []

abbrev pub refused_word : List ℕ
refused_word = 114 ∷ 101 ∷ 102 ∷ 117 ∷ 115 ∷ 101 ∷ 100 ∷ []

-- "each positive plan entry ... as from, to, amount"
unfoldable pub entry_line : ℕ → ℕ → ℕ → List ℕ
entry_line i j v = cond (ltb 0 v) (decimal i ++ line (32 ∷ decimal j) v) []

-- "by row, then column": the first m entries of row i, and the first k rows of n
unfoldable pub row_lines : (ℕ → ℕ) → ℕ → ℕ → List ℕ
row_lines f i zero = []
row_lines f i (suc m) = row_lines f i m ++ entry_line i m (f m)

unfoldable pub plan_lines : (ℕ → ℕ → ℕ) → ℕ → ℕ → List ℕ
plan_lines t n zero = []
plan_lines t n (suc k) = plan_lines t n k ++ row_lines (t k) k n
