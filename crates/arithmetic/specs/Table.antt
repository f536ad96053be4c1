-- Lent tables: a list as a function, a function as a list, and what a call leaves in a table.
use Rattle.std.specs.Prelude.{List, [], ◌∷◌, ◌++◌, ℕ, zero, suc, length, get_or, drop}

-- the number at place i
abbrev pub at : List ℕ → ℕ → ℕ
at l i = get_or l i 0

-- the list f 0, f 1, .., f (m - 1)
unfoldable pub tab : {A : Type 0} → ℕ → (ℕ → A) → List A
tab zero f = []
tab (suc m) f = tab m f ++ (f m ∷ [])

-- k rows of n numbers, row i from place i × n
unfoldable pub rows : {A : Type 0} → ℕ → ℕ → (ℕ → ℕ → A) → List A
rows n zero f = []
rows n (suc k) f = rows n k f ++ tab n (f k)

-- the lists f 0, f 1, .., f (c - 1), one behind the other
unfoldable pub appended : {A : Type 0} → ℕ → (ℕ → List A) → List A
appended zero f = []
appended (suc c) f = appended c f ++ f c

-- the n × n table of f
abbrev pub matrix : {A : Type 0} → ℕ → (ℕ → ℕ → A) → List A
matrix n f = rows n n f

-- "all other results 0": a result of a call with the given refusal number
abbrev pub result : ℕ → ℕ → ℕ
result zero v = v
result (suc k) v = 0

-- a lent table after a call: the answer in its first places and the rest as lent, or, after a refusal, as it came
abbrev pub written : {A : Type 0} → ℕ → List A → List A → List A
written zero answer lent = answer ++ drop (length answer) lent
written (suc k) answer lent = lent
