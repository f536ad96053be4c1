-- Document 02, W-213: the line of a vertex on the page of a tree. "Columns count from 0."
use Rattle.std.specs.Prelude.{ℕ, ◌+◌, ◌-◌, ◌/◌, ◌%◌, List, [], ◌∷◌, ◌++◌, ℤ, length}
use Rattle.arithmetic.specs.Table.{tab}
use Rattle.decimal_text.specs.Decimal.{signed_decimal}

-- k spaces
unfoldable pub spaces : ℕ → List ℕ
spaces k = tab k (λ _. 32)

-- a "number in two digits (00 to 63)"
unfoldable pub two_digits : ℕ → List ℕ
two_digits v = (48 + v / 10) ∷ (48 + v % 10) ∷ []

-- a text and "spaces up to column" w
unfoldable pub up_to : ℕ → List ℕ → List ℕ
up_to w text = text ++ spaces (w - length text)

-- a text "right-aligned in" w "columns"
unfoldable pub right_aligned : ℕ → List ℕ → List ℕ
right_aligned w text = spaces (w - length text) ++ text

-- "as many spaces as its depth, its number in two digits (00 to 63), spaces up to column 68, Ξ right-aligned in eleven columns, the potential in
-- eleven, five spaces, a newline"
unfoldable pub vertex_line : (depth v : ℕ) (imbalance potential : ℤ) → List ℕ
vertex_line depth v imbalance potential =
    up_to 68 (spaces depth ++ two_digits v)
    ++ (right_aligned 11 (signed_decimal imbalance) ++ (right_aligned 11 (signed_decimal potential) ++ (spaces 5 ++ (10 ∷ []))))
