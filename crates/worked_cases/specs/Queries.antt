-- Document 02, W-208, on some patches: the vertices within a reach, and the nearest vertex with a positive amount.
use Rattle.std.specs.Prelude.{ℕ, Bool, ◌&&◌, List, [], ◌∷◌, eqb}
use Rattle.arithmetic.specs.Table.{at, result}
use Rattle.graph.specs.Graph.{Graph, graph}
use Rattle.graph.specs.Distance.{distance}
use Rattle.distance_queries.specs.Within.{within_refusal, word_within}
use Rattle.distance_queries.specs.Nearest.{nearest_refusal, nearest}

-- a patch, a start and a reach; the number that the call gives, and the word
pub record WithinCase : Type 0 where
  pub patch : Graph
  pub start : ℕ
  pub reach : ℕ
  pub refusal : ℕ
  pub word : ℕ

abbrev pub within_case : Graph → (start reach k word : ℕ) → WithinCase
within_case g start reach k word = record { patch = g; start = start; reach = reach; refusal = k; word = word }

unfoldable pub reaches : WithinCase → Bool
reaches c =
    eqb (within_refusal c.patch c.start) c.refusal
    && eqb (result (within_refusal c.patch c.start) (word_within c.patch c.start c.reach)) c.word

-- a patch, a start and a painting; the number that the call gives, and the vertex
pub record NearestCase : Type 0 where
  pub patch : Graph
  pub start : ℕ
  pub amounts : List ℕ
  pub refusal : ℕ
  pub vertex : ℕ

abbrev pub nearest_case : Graph → (start : ℕ) (amounts : List ℕ) (k vertex : ℕ) → NearestCase
nearest_case g start amounts k vertex = record { patch = g; start = start; amounts = amounts; refusal = k; vertex = vertex }

unfoldable pub finds : NearestCase → Bool
finds c =
    eqb (nearest_refusal c.patch c.start c.amounts) c.refusal
    && eqb (result (nearest_refusal c.patch c.start c.amounts) (nearest (distance c.patch c.start) (at c.amounts) c.patch.n)) c.vertex

-- D's triangle, with a way round that is shorter than an edge; B's ring; a ring of edges of length 0 and an edge that leads out of it; and what 5 refuses
abbrev pub triangle : Graph
triangle = graph 3 (0 ∷ 0 ∷ 1 ∷ []) (1 ∷ 2 ∷ 2 ∷ []) (5 ∷ 1 ∷ 1 ∷ [])

abbrev pub ring : Graph
ring = graph 4 (0 ∷ 0 ∷ 1 ∷ 2 ∷ []) (1 ∷ 3 ∷ 2 ∷ 3 ∷ []) (1 ∷ 1 ∷ 1 ∷ 1 ∷ [])

abbrev pub welded : Graph
welded = graph 4 (0 ∷ 0 ∷ 1 ∷ 2 ∷ []) (1 ∷ 2 ∷ 2 ∷ 3 ∷ []) (0 ∷ 0 ∷ 0 ∷ 5 ∷ [])

abbrev pub apart : Graph
apart = graph 3 (0 ∷ []) (1 ∷ []) (1 ∷ [])

-- by the way round; the start alone; over the seam, up to its very length and one less; and refused by 1, 2, 3, 4, 5 and 17, and by 5 before 17
abbrev pub within_cases : List WithinCase
within_cases =
    within_case triangle 0 2 0 7
    ∷ within_case triangle 0 1 0 5
    ∷ within_case triangle 1 0 0 2
    ∷ within_case welded 3 5 0 15
    ∷ within_case welded 3 4 0 8
    ∷ within_case welded 1 0 0 7
    ∷ within_case (graph 1 [] [] []) 0 0 0 1
    ∷ within_case (graph 0 [] [] []) 0 9 1 0
    ∷ within_case (graph 2 (0 ∷ []) (1 ∷ []) []) 0 9 2 0
    ∷ within_case (graph 2 (1 ∷ []) (0 ∷ []) (1 ∷ [])) 0 9 3 0
    ∷ within_case (graph 2 (0 ∷ []) (1 ∷ []) (65536 ∷ [])) 0 9 4 0
    ∷ within_case apart 0 9 5 0
    ∷ within_case apart 3 9 5 0
    ∷ within_case ring 4 9 17 0
    ∷ []

-- the nearer by the way round; the start itself; a tie, to the lowest number, over a seam too; no amount; and refused by 2, 5, 6 and 17, by 5 before 6 and by 6 before 17
abbrev pub nearest_cases : List NearestCase
nearest_cases =
    nearest_case triangle 0 (0 ∷ 9 ∷ 1 ∷ []) 0 2
    ∷ nearest_case triangle 0 (0 ∷ 1 ∷ 0 ∷ []) 0 1
    ∷ nearest_case triangle 1 (3 ∷ 1 ∷ 3 ∷ []) 0 1
    ∷ nearest_case ring 0 (0 ∷ 1 ∷ 1 ∷ 1 ∷ []) 0 1
    ∷ nearest_case ring 2 (0 ∷ 0 ∷ 0 ∷ 1 ∷ []) 0 3
    ∷ nearest_case welded 2 (0 ∷ 1 ∷ 1 ∷ 7 ∷ []) 0 1
    ∷ nearest_case welded 3 (1 ∷ 1 ∷ 1 ∷ 0 ∷ []) 0 0
    ∷ nearest_case ring 1 (0 ∷ 0 ∷ 0 ∷ 0 ∷ []) 0 64
    ∷ nearest_case ring 1 (0 ∷ 16777216 ∷ 0 ∷ 0 ∷ []) 0 1
    ∷ nearest_case ring 1 (0 ∷ 1 ∷ 0 ∷ []) 2 0
    ∷ nearest_case apart 0 (16777217 ∷ 0 ∷ 0 ∷ []) 5 0
    ∷ nearest_case ring 4 (16777216 ∷ 0 ∷ 0 ∷ 1 ∷ []) 6 0
    ∷ nearest_case ring 4 (1 ∷ 0 ∷ 0 ∷ 1 ∷ []) 17 0
    ∷ []
