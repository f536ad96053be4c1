-- Document 02, W-201: what a report tells of m outcomes. Outcome i is a refusal's number, or 0 and a cost: `number i` and `cost i`.
use Rattle.std.specs.Prelude.{ℕ, zero, suc, max, Bool, ◌&&◌, eqb}
use Rattle.arithmetic.specs.Sum.{sum, pick}
use Rattle.vertex_set.specs.Lowest.{lowest}

-- "how many images were accepted, how many were refused under each number": how many have the number k, 0 for the accepted ones
unfoldable pub count_of : (m : ℕ) (number : ℕ → ℕ) → ℕ → ℕ
count_of m number k = sum m (λ i. pick (eqb (number i) k) 1)

-- what outcome i counts with: its cost, if it was accepted
abbrev pub cost_at : (number cost : ℕ → ℕ) → ℕ → ℕ
cost_at number cost i = pick (eqb (number i) 0) (cost i)

-- "the exact sum of the costs"
unfoldable pub cost_sum : (m : ℕ) (number cost : ℕ → ℕ) → ℕ
cost_sum m number cost = sum m (cost_at number cost)

-- "the greatest cost"; 0 if none was accepted
unfoldable pub greatest_cost : (m : ℕ) (number cost : ℕ → ℕ) → ℕ
greatest_cost zero number cost = 0
greatest_cost (suc m) number cost = max (greatest_cost m number cost) (cost_at number cost m)

-- outcome i was accepted and has it
abbrev pub has_greatest : (m : ℕ) (number cost : ℕ → ℕ) → ℕ → Bool
has_greatest m number cost i = eqb (number i) 0 && eqb (cost i) (greatest_cost m number cost)

-- "the first image that has it, counted from 0"; m if none was accepted
unfoldable pub first_greatest : (m : ℕ) (number cost : ℕ → ℕ) → ℕ
first_greatest m number cost = lowest (has_greatest m number cost) m 0
