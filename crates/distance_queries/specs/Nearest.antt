-- Document 02, W-208: "the nearest vertex with a positive amount in a given painting, ties to the lowest number, or 64 if no amount is positive".
use Rattle.std.specs.Prelude.{ℕ, Option, Result, unwrap_or, zero, suc, ◌≤◌, ◌<◌, ◌≡◌, cond, ◌&&◌, ◌||◌, List, [], ◌∷◌, ◌++◌, eqb, ltb, length}
use Rattle.arithmetic.specs.Refusal.{check, refusal}
use Rattle.arithmetic.specs.Table.{at, result}
use Rattle.refusals.specs.declared.Refusal.{Refusal}
use Rattle.refusals.specs.Refusals.{or_zero}
use Rattle.graph.specs.Graph.{Graph}
use Rattle.graph.specs.Checks.{graph_checks}
use Rattle.graph.specs.Distance.{distance}
use Rattle.measures.specs.Checks.{total_ok}

-- "17 ... comes after 5, and for the nearest query after 6 on its one painting"; 2: the painting is not n long
unfoldable pub nearest_refusal : Graph → (start : ℕ) → (amounts : List ℕ) → ℕ
nearest_refusal g start amounts =
    refusal (graph_checks g (eqb (length amounts) g.n) ++ (check 6 (total_ok g.n (at amounts)) ∷ check 17 (ltb start g.n) ∷ []))

-- v, if its amount is positive and it is nearer than the best so far, or there is none; d is the distance from the start
unfoldable pub nearer : (d amounts : ℕ → ℕ) → (best v : ℕ) → ℕ
nearer d amounts best v = cond (ltb 0 (amounts v) && (eqb best 64 || ltb (d v) (d best))) v best

-- the nearest of the first n vertices with a positive amount, or 64
unfoldable pub nearest : (d amounts : ℕ → ℕ) → (n : ℕ) → ℕ
nearest d amounts zero = 64
nearest d amounts (suc n) = nearer d amounts (nearest d amounts n) n

-- the number of a vertex, 64 for none
abbrev pub or_64 : Option ℕ → ℕ
or_64 v = unwrap_or v 64

-- the number that a call returns, 0 after a refusal
abbrev pub vertex_of : Result (Option ℕ) Refusal → ℕ
vertex_of = or_zero or_64

-- what the call returns
pub record FoundNearest (g : Graph) (start : ℕ) (amounts : List ℕ) (k vertex : ℕ) : Type 0 where
  pub refusal : k ≡ nearest_refusal g start amounts
  pub vertex_is : vertex ≡ result k (nearest (distance g start) (at amounts) g.n)

-- the sentence, of n vertices: 64 if no amount is positive; else a vertex with a positive amount, no vertex with one being nearer, nor as near and lower
pub record IsNearest (d amounts : ℕ → ℕ) (n v : ℕ) : Type 0 where
  pub none : v ≡ 64 → (x : ℕ) → x < n → amounts x ≡ 0
  pub vertex : (v ≡ 64 → ⊥) → v < n
  pub positive : (v ≡ 64 → ⊥) → 0 < amounts v
  pub least : (x : ℕ) → x < n → 0 < amounts x → d v ≤ d x
  pub lowest : (x : ℕ) → x < n → 0 < amounts x → d x ≡ d v → v ≤ x
