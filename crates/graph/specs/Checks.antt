-- Document 01, "What is refused": checks 1 to 5, each a test that is true where nothing is refused.
use Rattle.std.specs.Prelude.{ℕ, zero, suc, ◌-◌, Bool, false, ◌&&◌, ◌||◌, List, [], ◌∷◌, ◌++◌, length, get_or, eqb, ltb, leb}
use Rattle.arithmetic.specs.Bools.{all, any}
use Rattle.arithmetic.specs.Table.{at, tab}
use Rattle.arithmetic.specs.Refusal.{Check, check}
use Rattle.graph.specs.Graph.{Graph, edges}

-- 1: "n is 0 or above 64"
unfoldable pub vertices_ok : ℕ → Bool
vertices_ok n = ltb 0 n && leb n 64

-- 2: "m above 512, edge lists unequal in length"; each call adds its own tables
unfoldable pub lists_fit : (a b lengths : List ℕ) → Bool
lists_fit a b lengths = leb (length a) 512 && (eqb (length b) (length a) && eqb (length lengths) (length a))

abbrev pub lists_ok : Graph → Bool
lists_ok g = lists_fit g.lower g.upper g.lengths

-- (x, y) stands after (a, b)
abbrev pub after : ℕ → ℕ → ℕ → ℕ → Bool
after a b x y = ltb a x || (eqb a x && ltb b y)

-- 3: "some edge has b ≥ n, a ≥ b, or isn't after its forerunner"
unfoldable pub edge_fits : (n : ℕ) (a b : List ℕ) → ℕ → Bool
edge_fits n a b e =
    ltb (at b e) n && (ltb (at a e) (at b e) && (eqb e 0 || after (at a (e - 1)) (at b (e - 1)) (at a e) (at b e)))

abbrev pub edges_ok : Graph → Bool
edges_ok g = all (edges g) (edge_fits g.n g.lower g.upper)

-- 4: "some length ... above 65,535"; document 02, W-206: "number 4 is given from now on only above 65,535"
unfoldable pub length_fits : List ℕ → ℕ → Bool
length_fits lengths e = leb (at lengths e) 65535

abbrev pub lengths_ok : Graph → Bool
lengths_ok g = all (edges g) (length_fits g.lengths)

-- whether vertex v is in a table of marks
abbrev pub marked : List Bool → ℕ → Bool
marked l v = get_or l v false

-- edge e leads to v from a marked vertex
abbrev pub leads : Graph → List Bool → ℕ → ℕ → Bool
leads g l v e = (eqb (at g.upper e) v && marked l (at g.lower e)) || (eqb (at g.lower e) v && marked l (at g.upper e))

-- the vertices that k edges or fewer reach from vertex 0
unfoldable pub reached : Graph → ℕ → List Bool
reached g zero = tab g.n (λ v. eqb v 0)
reached g (suc k) = tab g.n (λ v. marked (reached g k) v || any (edges g) (leads g (reached g k) v))

-- 5: "some vertex can't be reached from 0"
unfoldable pub connected : Graph → Bool
connected g = all g.n (marked (reached g g.n))

-- 1 and 2, `tables` being what a call adds to 2
unfoldable pub size_checks : Graph → Bool → List Check
size_checks g tables = check 1 (vertices_ok g.n) ∷ check 2 (lists_ok g && tables) ∷ []

-- 3 to 5
unfoldable pub edge_checks : Graph → List Check
edge_checks g = check 3 (edges_ok g) ∷ check 4 (lengths_ok g) ∷ check 5 (connected g) ∷ []

-- 1 to 5
abbrev pub graph_checks : Graph → Bool → List Check
graph_checks g tables = size_checks g tables ++ edge_checks g
