-- Document 02, W-204: the climb up a tree from one vertex, as a call on n, a root r, parents, a vertex y and a lent list of words.
use Rattle.std.specs.Prelude.{ℕ, ◌^◌, Bool, false, cond, ◌&&◌, ◌||◌, List, [], ◌∷◌, eqb, ltb, leb, length}
use Rattle.std.specs.Int.Bits.{bit_or}
use Rattle.arithmetic.specs.Refusal.{check, refusal}
use Rattle.arithmetic.specs.Table.{at, tab, written}
use Rattle.rooted_tree.specs.Chain.{below}
use Rattle.graph.specs.Checks.{vertices_ok}
use Rattle.tree_checks.specs.Checks.{parents_ok, chains_ok}

-- "Checks: 1, 2, 8 and 10"; 2: the parents are not n, or the words fewer than n
unfoldable pub mark_refusal : ℕ → ℕ → (parents words : List ℕ) → ℕ
mark_refusal n r parents words =
    refusal (check 1 (vertices_ok n) ∷ check 2 (eqb (length parents) n && leb n (length words))
    ∷ check 8 (parents_ok n r (at parents)) ∷ check 10 (chains_ok n r (at parents)) ∷ [])

-- "it sets y's bit in the word of each x that y is below and changes no other bit"
abbrev pub marked_word : ℕ → (ℕ → ℕ) → ℕ → List ℕ → ℕ → ℕ
marked_word n p y words x = cond (below p n y x) (bit_or (at words x) (2 ^ y)) (at words x)

-- "a y not below n changes nothing": its answer has no places
unfoldable pub marked_words : ℕ → (ℕ → ℕ) → ℕ → List ℕ → List ℕ
marked_words n p y words = cond (ltb y n) (tab n (marked_word n p y words)) []

-- the lent words after the call
unfoldable pub mark_table : ℕ → ℕ → (parents : List ℕ) → ℕ → (words : List ℕ) → List ℕ
mark_table n r parents y words = written (mark_refusal n r parents words) (marked_words n (at parents) y words) words

-- "Climbing once from each vertex, in any order": the call from each vertex of a list, one after another
unfoldable pub mark_each : ℕ → ℕ → (parents vertices words : List ℕ) → List ℕ
mark_each n r parents [] words = words
mark_each n r parents (y ∷ ys) words = mark_each n r parents ys (mark_table n r parents y words)

-- v stands on a list
unfoldable pub listed : List ℕ → ℕ → Bool
listed [] v = false
listed (y ∷ ys) v = eqb v y || listed ys v
