-- The potential after a pivot: that of the cut subtree is shifted until the entering edge is tight.
use Rattle.std.specs.Prelude.{Bool, true, false, ℕ, ◌+◌, ◌-◌, ◌<◌}
use Rattle.arithmetic.specs.Steps.Product.{gap}
use Rattle.rooted_tree.specs.Steps.Subtotal.{subtotal}
use Rattle.tree_pivot.specs.Steps.PivotCost.{Leaving}

-- the potentials u of a and w of b are further apart than the edge between them is long: u has to fall, or to rise
abbrev pub Violated : Bool → (u w long : ℕ) → Type 0
Violated false u w long = w + long < u
Violated true u w long = u + long < w

-- c, on a's side, is to leave; the flow goes from more to less, or, where the potential is to rise, from less to more
abbrev pub Leaves : Bool → ℕ → (p more less : ℕ → ℕ) → (a b c : ℕ) → Type 0
Leaves false n p more less a b c = Leaving n p more less a b c
Leaves true n p more less a b c = Leaving n p less more a b c

-- the potential violates the edge between a and b, which is to enter
pub record Enters (rises : Bool) (n : ℕ) (p m v U : ℕ → ℕ) (a b c long : ℕ) : Type 0 where
  pub violated : Violated rises (U a) (U b) long
  pub leaves : Leaves rises n p (subtotal p n m) (subtotal p n v) a b c

-- by how much
abbrev pub violation : (u w long : ℕ) → ℕ
violation u w long = gap u w - long
