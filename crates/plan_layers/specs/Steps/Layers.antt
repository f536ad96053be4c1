-- The depths of n vertices and the masks of their subtrees in tables, and the plan's rule by these.
use Rattle.std.specs.Prelude.{Bool, List, ℕ}
use Rattle.arithmetic.specs.Table.{at}
use Rattle.arithmetic.specs.Steps.Mask.{bit}
use Rattle.plan_rule.specs.Plan.{PartialPlan}
use Rattle.plan_rule.specs.Steps.Taken.{taken_by_depth}

-- the set that the word of x tells
unfoldable pub set_of : List ℕ → ℕ → ℕ → Bool
set_of words x = bit (at words x)

-- the vertices of a depth below d, by falling depth
unfoldable pub taken_by_tables : ℕ → List ℕ → List ℕ → ℕ → PartialPlan → PartialPlan
taken_by_tables n depths masks = taken_by_depth n (at depths) (set_of masks)
