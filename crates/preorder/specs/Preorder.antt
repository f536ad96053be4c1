-- Document 02, W-213: the order of the vertices on the page of a tree, and their lines. n is the number of vertices, r the root, p the parents.
use Rattle.std.specs.Prelude.{ℕ, zero, suc, cond, List, [], ◌∷◌, ◌++◌, ℤ}
use Rattle.arithmetic.specs.Table.{appended}
use Rattle.rooted_tree.specs.Chain.{depth, is_child}
use Rattle.page_line.specs.Line.{vertex_line}

-- "A vertex is followed by its children by rising number, each with its whole limb before the following child": v and what is below it, on k levels
-- at most. A limb is a subtree
unfoldable pub preorder : ℕ → ℕ → (ℕ → ℕ) → ℕ → ℕ → List ℕ
unfolding appended
preorder n r p zero v = []
preorder n r p (suc k) v = v ∷ appended n (λ c. cond (is_child r p v c) (preorder n r p k c) [])

-- the whole tree: its root comes first, and it has at most n levels
abbrev pub tree_order : ℕ → ℕ → (ℕ → ℕ) → List ℕ
tree_order n r p = preorder n r p n r

-- the lines of the vertices in a list
unfoldable pub lines : (ℕ → List ℕ) → List ℕ → List ℕ
lines line [] = []
lines line (v ∷ vs) = line v ++ lines line vs

-- the line of a vertex, and the page of a tree, with the imbalances i and the potential u of its vertices
abbrev pub line_of : ℕ → ℕ → (ℕ → ℕ) → (ℕ → ℤ) → (ℕ → ℤ) → ℕ → List ℕ
line_of n r p i u v = vertex_line (depth p r n v) v (i v) (u v)

unfoldable pub page : ℕ → ℕ → (ℕ → ℕ) → (ℕ → ℤ) → (ℕ → ℤ) → List ℕ
page n r p i u = lines (line_of n r p i u) (tree_order n r p)
