-- Document 02, W-208: "from a vertex and a reach, the word of all vertices at distance at most the reach".
use Rattle.std.specs.Prelude.{ℕ, Result, ◌≡◌, true, [], ◌∷◌, ◌++◌, ltb, leb}
use Rattle.arithmetic.specs.Mask.{mask}
use Rattle.arithmetic.specs.Refusal.{check, refusal}
use Rattle.arithmetic.specs.Table.{result}
use Rattle.refusals.specs.declared.Refusal.{Refusal}
use Rattle.refusals.specs.Refusals.{or_zero}
use Rattle.graph.specs.Graph.{Graph}
use Rattle.graph.specs.Checks.{graph_checks}
use Rattle.graph.specs.Distance.{distance}

-- "Checks: 17, start vertex not below n; it comes after 5"
unfoldable pub within_refusal : Graph → (start : ℕ) → ℕ
within_refusal g start = refusal (graph_checks g true ++ (check 17 (ltb start g.n) ∷ []))

-- the word; "the start itself counts", at distance 0, and a distance "follow[s] the shortest lengths, seams included"
unfoldable pub word_within : Graph → (start reach : ℕ) → ℕ
word_within g start reach = mask g.n (λ v. leb (distance g start v) reach)

-- the word that a call returns, 0 after a refusal
abbrev pub mask_of : Result ℕ Refusal → ℕ
mask_of = or_zero (λ (word : ℕ). word)

-- what the call returns
pub record FoundWithin (g : Graph) (start reach k word : ℕ) : Type 0 where
  pub refusal : k ≡ within_refusal g start
  pub mask_is : word ≡ result k (word_within g start reach)
