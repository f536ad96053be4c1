-- What a sheet tells while outcomes are added to it.
use Rattle.std.specs.Prelude.{ℕ, ◌≡◌, cond, eqb, Some, None}
use Rattle.arithmetic.specs.Table.{tab}
use Rattle.cost_sheet.specs.declared.Sheet.{Sheet}
use Rattle.cost_sheet.specs.Sheet.{count_of, cost_sum, greatest_cost, first_greatest}

-- the figures of the first m outcomes
pub record Tells (m : ℕ) (number cost : ℕ → ℕ) (t : Sheet) : Type 0 where
  pub counts : t.tally ≡ tab 24 (count_of m number)
  pub total : t.sum ≡ cost_sum m number cost
  pub most : t.greatest ≡ greatest_cost m number cost
  pub place : t.first ≡ cond (eqb (count_of m number 0) 0) None (Some (first_greatest m number cost))
