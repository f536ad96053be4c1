-- The potential of a tree with a length l above each vertex, over two tests: where `up` holds a vertex is by its length higher than its
-- parent, where `down` holds lower.
use mathlib.Core.Path.{◌≡◌}
use mathlib.Core.Bool.{Bool, true, false, not}
use Prim.Native.Nat.{ℕ, ◌+◌, ◌-◌, ◌≤◌, ◌<◌}
use native.Mathlib.Omega.{arith}
use lib.Dec.{eqb}
use Rattle.arithmetic.specs.Sum.{pick, sum}
use Rattle.arithmetic.proofs.Laws.Sum.{pick-le, sum-le}
use Rattle.rooted_tree.specs.Steps.Rooted.{Rooted}
use Rattle.rooted_tree.specs.Steps.Subtotal.{inner}
use Rattle.rooted_tree.specs.Steps.Potential.{lengths_where}
use Rattle.rooted_tree.proofs.Laws.Climb.{climbed-le, climbed_root, climbed-step}

-- the potential of y, with the value c at the root
unfoldable pub tree_potential : (n r : ℕ) (p l : ℕ → ℕ) (up down : ℕ → Bool) (c : ℕ) → ℕ → ℕ
tree_potential n r p l up down c y = c + lengths_where n r p l up y - lengths_where n r p l down y

-- ---- laws
module _ (n r : ℕ) (p l : ℕ → ℕ) (test : ℕ → Bool) (y : ℕ) where
  pub lengths_le : lengths_where n r p l test y ≤ sum n l
  lengths_le =
      omega (
        arith,
        climbed-le n r p (λ x. pick (test x) (l x)) y,
        sum-le n (λ x. inner r x (pick (test x) (l x))) l (λ x h. omega (arith, pick-le (not (eqb x r)) (pick (test x) (l x)), pick-le (test x) (l x))),
      )

module _ {n r : ℕ} {p : ℕ → ℕ} (t : Rooted n r p) (l : ℕ → ℕ) (up down : ℕ → Bool) (c : ℕ) where
  pub potential_root : tree_potential n r p l up down c r ≡ c
  unfolding tree_potential
  potential_root = omega (arith, climbed_root t (λ x. pick (up x) (l x)), climbed_root t (λ x. pick (down x) (l x)))

  -- what it falls by is not below the root's value
  module _ (x : ℕ) (h : x < n) (d : x ≡ r → ⊥) (enough : (y : ℕ) → lengths_where n r p l down y ≤ c) where
    steps : (a b : Bool) → up x ≡ a → down x ≡ b
        → (lengths_where n r p l up x ≡ pick a (l x) + lengths_where n r p l up (p x))
        × (lengths_where n r p l down x ≡ pick b (l x) + lengths_where n r p l down (p x))
    steps a b e f = (rw (← e) (climbed-step t (λ x. pick (up x) (l x)) x h d), rw (← f) (climbed-step t (λ x. pick (down x) (l x)) x h d))

    pub potential_up : up x ≡ true → down x ≡ false → tree_potential n r p l up down c x ≡ tree_potential n r p l up down c (p x) + l x
    unfolding tree_potential
    potential_up e f = let s = steps true false e f in omega (arith, enough (p x))

    pub potential_down : up x ≡ false → down x ≡ true → tree_potential n r p l up down c (p x) ≡ tree_potential n r p l up down c x + l x
    unfolding tree_potential
    potential_down e f = let s = steps false true e f in omega (arith, enough x)
