-- Document 01, "What is refused": checks 8 to 10, each a test that is true where nothing is refused. p are the parents and r the root.
use Rattle.std.specs.Prelude.{ℕ, Bool, not, ◌&&◌, ◌||◌, List, [], ◌∷◌, eqb, ltb}
use Rattle.arithmetic.specs.Bools.{all}
use Rattle.arithmetic.specs.Refusal.{Check, check}
use Rattle.rooted_tree.specs.Chain.{climb}
use Rattle.graph.specs.Graph.{Graph, joined}

-- 8: "root or a parent ≥ n, root's parent another, or a second vertex its own parent"
unfoldable pub parents_ok : ℕ → ℕ → (ℕ → ℕ) → Bool
parents_ok n r p =
    ltb r n && (all n (λ x. ltb (p x) n) && (eqb (p r) r && all n (λ x. eqb x r || not (eqb (p x) x))))

-- 9: "a vertex and its parent share no edge"
unfoldable pub tree_edges_ok : Graph → ℕ → (ℕ → ℕ) → Bool
tree_edges_ok g r p = all g.n (λ x. eqb x r || joined g x (p x))

-- 10: "a chain of parents misses the root"
unfoldable pub chains_ok : ℕ → ℕ → (ℕ → ℕ) → Bool
chains_ok n r p = all n (λ x. eqb (climb p n x) r)

-- 8 to 10
unfoldable pub tree_checks : Graph → ℕ → (ℕ → ℕ) → List Check
tree_checks g r p = check 8 (parents_ok g.n r p) ∷ check 9 (tree_edges_ok g r p) ∷ check 10 (chains_ok g.n r p) ∷ []
