-- The plan's rule with any sets of vertices for the subtrees, and any numbers for the depths: the steps of the code that has both in tables.
use Rattle.std.specs.Prelude.{ℕ, zero, suc, Bool, cond, eqb}
use Rattle.plan_rule.specs.Plan.{PartialPlan, matched}

-- the vertices below k that the test tells, by rising number, each with its set
unfoldable pub taken : ℕ → (ℕ → Bool) → (ℕ → ℕ → Bool) → ℕ → PartialPlan → PartialPlan
taken n f b zero s = s
taken n f b (suc k) s = cond (f k) (matched n (b k) n (taken n f b k s)) (taken n f b k s)

-- all vertices of a depth below d, by falling depth
unfoldable pub taken_by_depth : ℕ → (ℕ → ℕ) → (ℕ → ℕ → Bool) → ℕ → PartialPlan → PartialPlan
taken_by_depth n h b zero s = s
taken_by_depth n h b (suc d) s = taken_by_depth n h b d (taken n (λ x. eqb (h x) d) b n s)
