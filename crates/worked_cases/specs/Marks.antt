-- Document 02, W-204, on A's tree and on what is none: words before and after climbs.
use Rattle.std.specs.Prelude.{ℕ, Bool, ◌&&◌, List, [], ◌∷◌, eqb}
use Rattle.tree_walks.specs.MarkAncestors.{mark_refusal, mark_each}
use Rattle.worked_cases.specs.Figures.{sames}

-- climbs from some vertices, one after another; the number that each gives, and the words after them
pub record MarkCase : Type 0 where
  pub n : ℕ
  pub root : ℕ
  pub parents : List ℕ
  pub vertices : List ℕ
  pub words : List ℕ
  pub refusal : ℕ
  pub after : List ℕ

-- each gives the number, and together they leave the words
unfoldable pub marked : MarkCase → Bool
marked c =
    eqb (mark_refusal c.n c.root c.parents c.words) c.refusal
    && sames eqb (mark_each c.n c.root c.parents c.vertices c.words) c.after

abbrev pub mark_case : ℕ → ℕ → (parents vertices words : List ℕ) → ℕ → List ℕ → MarkCase
mark_case n r parents vertices words k after = record { n = n; root = r; parents = parents; vertices = vertices; words = words; refusal = k; after = after }

-- from every vertex on words of 0; from one on others, with a place more; from what is no vertex; and refused by 1, 2 twice, 8 before 10, and 10
abbrev pub mark_cases : List MarkCase
mark_cases =
    mark_case 4 3 (1 ∷ 2 ∷ 3 ∷ 3 ∷ []) (2 ∷ 0 ∷ 3 ∷ 1 ∷ []) (0 ∷ 0 ∷ 0 ∷ 0 ∷ []) 0 (1 ∷ 3 ∷ 7 ∷ 15 ∷ [])
    ∷ mark_case 4 3 (1 ∷ 2 ∷ 3 ∷ 3 ∷ []) (1 ∷ []) (8 ∷ 0 ∷ 1 ∷ 6 ∷ 4 ∷ []) 0 (8 ∷ 2 ∷ 3 ∷ 6 ∷ 4 ∷ [])
    ∷ mark_case 4 3 (1 ∷ 2 ∷ 3 ∷ 3 ∷ []) (4 ∷ []) (8 ∷ 0 ∷ 1 ∷ 6 ∷ 4 ∷ []) 0 (8 ∷ 0 ∷ 1 ∷ 6 ∷ 4 ∷ [])
    ∷ mark_case 0 0 [] (0 ∷ []) (5 ∷ []) 1 (5 ∷ [])
    ∷ mark_case 4 3 (1 ∷ 2 ∷ 3 ∷ []) (0 ∷ []) (0 ∷ 0 ∷ 0 ∷ 0 ∷ []) 2 (0 ∷ 0 ∷ 0 ∷ 0 ∷ [])
    ∷ mark_case 4 3 (1 ∷ 2 ∷ 3 ∷ 3 ∷ []) (0 ∷ []) (0 ∷ 0 ∷ 0 ∷ []) 2 (0 ∷ 0 ∷ 0 ∷ [])
    ∷ mark_case 4 3 (1 ∷ 0 ∷ 2 ∷ 3 ∷ []) (2 ∷ []) (0 ∷ 0 ∷ 0 ∷ 0 ∷ []) 8 (0 ∷ 0 ∷ 0 ∷ 0 ∷ [])
    ∷ mark_case 4 3 (1 ∷ 0 ∷ 3 ∷ 3 ∷ []) (2 ∷ []) (0 ∷ 0 ∷ 0 ∷ 0 ∷ []) 10 (0 ∷ 0 ∷ 0 ∷ 0 ∷ [])
    ∷ []
