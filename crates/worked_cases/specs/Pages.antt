-- Document 02, W-213, on A's tree, which is a path, and on one that branches.
use Rattle.std.specs.Prelude.{ℕ, ◌+◌, ◌-◌, Bool, cond, ◌&&◌, List, [], ◌∷◌, ◌++◌, eqb, leb, ltb, length}
use Rattle.arithmetic.specs.Table.{at, tab, written}
use Rattle.graph.specs.Graph.{Graph, graph}
use Rattle.given_tree.specs.Given.{Given, given}
use Rattle.tree_page.specs.Page.{page_refusal, tree_page}
use Rattle.worked_cases.specs.Figures.{sames}
use Rattle.worked_cases.specs.Cases.{a}

-- a line read by its columns: a newline in column 95, three texts from given columns on, and spaces elsewhere
unfoldable pub in_columns : ℕ → List ℕ → (ℕ → ℕ) → ℕ → ℕ
in_columns from text rest c = cond (leb from c && ltb c (from + length text)) (at text (c - from)) (rest c)

unfoldable pub line_read : ℕ → List ℕ → ℕ → List ℕ → ℕ → List ℕ → List ℕ
line_read depth number first imbalance second potential =
    tab 96 (in_columns depth number (in_columns first imbalance (in_columns second potential (in_columns 95 (10 ∷ []) (λ _. 32)))))

-- what is lent, the number that the call gives, and the buffer as it comes back
pub record PageCase : Type 0 where
  pub patch : Graph
  pub lent : Given
  pub buffer : List ℕ
  pub refusal : ℕ
  pub after : List ℕ

abbrev pub page_case : Graph → Given → List ℕ → ℕ → List ℕ → PageCase
page_case g w buffer k after = record { patch = g; lent = w; buffer = buffer; refusal = k; after = after }

unfoldable pub prints : PageCase → Bool
prints c =
    eqb (page_refusal c.patch c.lent c.buffer) c.refusal
    && sames eqb (written c.refusal (tree_page c.patch c.lent) c.buffer) c.after

-- the root 2 has the children 0 and 1, and 0 has 3
abbrev pub branching : Graph
branching = graph 4 (0 ∷ 0 ∷ 1 ∷ []) (2 ∷ 3 ∷ 2 ∷ []) (30 ∷ 7 ∷ 100 ∷ [])

abbrev pub branches : ℕ → Given
branches r = given (0 ∷ 12 ∷ 0 ∷ 1 ∷ []) (5 ∷ 0 ∷ 1 ∷ 7 ∷ []) r (2 ∷ 2 ∷ 2 ∷ 0 ∷ [])

-- k bytes of a buffer that nobody has written to
abbrev pub unwritten : ℕ → List ℕ
unwritten k = tab k (λ _. 7)

-- both pages, A's with bytes behind it; a buffer that is too short by one; and a root that is none, with and without room
abbrev pub page_cases : List PageCase
page_cases =
    page_case a.patch a.lent (unwritten 390) 0
    (line_read 0 (48 ∷ 51 ∷ []) 78 (48 ∷ []) 89 (48 ∷ []) ++ (line_read 1 (48 ∷ 50 ∷ []) 78 (51 ∷ []) 89 (49 ∷ [])
    ++ (line_read 2 (48 ∷ 49 ∷ []) 78 (51 ∷ []) 89 (52 ∷ []) ++ (line_read 3 (48 ∷ 48 ∷ []) 78 (53 ∷ []) 89 (54 ∷ []) ++ unwritten 6))))
    ∷ page_case branching (branches 2) (unwritten 384) 0
    (line_read 0 (48 ∷ 50 ∷ []) 78 (48 ∷ []) 89 (48 ∷ []) ++ (line_read 1 (48 ∷ 48 ∷ []) 76 (45 ∷ 49 ∷ 49 ∷ []) 87 (45 ∷ 51 ∷ 48 ∷ [])
    ++ (line_read 2 (48 ∷ 51 ∷ []) 77 (45 ∷ 54 ∷ []) 87 (45 ∷ 51 ∷ 55 ∷ []) ++ line_read 1 (48 ∷ 49 ∷ []) 77 (49 ∷ 50 ∷ []) 87 (49 ∷ 48 ∷ 48 ∷ []))))
    ∷ page_case branching (branches 2) (unwritten 383) 2 (unwritten 383)
    ∷ page_case branching (branches 3) (unwritten 384) 8 (unwritten 384)
    ∷ page_case branching (branches 3) (unwritten 383) 2 (unwritten 383)
    ∷ []
