-- A walk from a vertex up to the root that adds up f: the law of every loop that walks up parents and counts or sums.
use mathlib.Core.Path.{◌≡◌, ap, ◌∙◌}
use Prim.Native.Nat.{ℕ, ◌+◌, ◌≤◌, ◌<◌}
use native.Mathlib.Omega.{arith}
use borrow.Author.Tests.{ne_eqb}
use Rattle.arithmetic.specs.Sum.{pick, sum}
use Rattle.arithmetic.proofs.Laws.Bools.{eqb_self}
use Rattle.arithmetic.proofs.Laws.Sum.{pick-le, sum_ext, sum-le}
use Rattle.rooted_tree.specs.Chain.{below, depth}
use Rattle.rooted_tree.specs.Steps.Rooted.{Rooted}
use Rattle.rooted_tree.specs.Steps.Subtotal.{inner}
use Rattle.rooted_tree.specs.Steps.Climb.{climbed}
use Rattle.rooted_tree.proofs.Laws.Rooted.{path-sum_root, path-sum-step, tree_ind, depth_root, depth-step}
use Rattle.rooted_tree.proofs.Laws.Subtotal.{inner_ext}

-- the walk from y has come to z with a sum: what is left is f above z
pub record Climbing (n r : ℕ) (p f : ℕ → ℕ) (y z total : ℕ) : Type 0 where
  pub low : z < n
  pub rest : total + climbed n r p f z ≡ climbed n r p f y

pub climbed-le : (n r : ℕ) (p f : ℕ → ℕ) (y : ℕ) → climbed n r p f y ≤ sum n (λ x. inner r x (f x))
climbed-le n r p f y = sum-le n _ _ (λ x k. pick-le (below p n y x) (inner r x (f x)))

pub climbed_ext : (n r : ℕ) (p f g : ℕ → ℕ) (y : ℕ) → ((x : ℕ) → x < n → (x ≡ r → ⊥) → f x ≡ g x) → climbed n r p f y ≡ climbed n r p g y
climbed_ext n r p f g y h = sum_ext n _ _ (λ x l. ap (pick (below p n y x)) (inner_ext n r f g h x l))

pub climbing_none : {n y : ℕ} (r : ℕ) (p f : ℕ → ℕ) → y < n → Climbing n r p f y y 0
climbing_none r p f h = record { low = h; rest = omega arith }

module _ {n r : ℕ} {p : ℕ → ℕ} (t : Rooted n r p) where
  pub climbed_root : (f : ℕ → ℕ) → climbed n r p f r ≡ 0
  climbed_root f = path-sum_root t (λ x. inner r x (f x)) ∙ rw (eqb_self r)

  pub climbed-step : (f : ℕ → ℕ) (y : ℕ) → y < n → (y ≡ r → ⊥) → climbed n r p f y ≡ f y + climbed n r p f (p y)
  climbed-step f y l d = path-sum-step t (λ x. inner r x (f x)) y l d ∙ rw (ne_eqb y r d)

  -- the steps are the depth
  pub climbed-depth : (y : ℕ) → y < n → climbed n r p (λ _. 1) y ≡ depth p r n y
  climbed-depth =
      tree_ind t (λ y. climbed n r p (λ _. 1) y ≡ depth p r n y)
      (omega (arith, climbed_root (λ _. 1), depth_root t))
      (λ y l d h. omega (arith, h, climbed-step (λ _. 1) y l d, depth-step t y l d))

  module _ {f : ℕ → ℕ} {y z total : ℕ} (w : Climbing n r p f y z total) where
    pub climbing_end : z ≡ r → total ≡ climbed n r p f y
    climbing_end e = omega (arith, w.rest, ap (climbed n r p f) e, climbed_root f)

    module _ (d : z ≡ r → ⊥) where
      -- the measure of the walk
      pub climbing_less : depth p r n (p z) < depth p r n z
      climbing_less = omega (arith, depth-step t z w.low d)

      module _ {v : ℕ} (e : v ≡ f z) where
        pub climbing_fits : total + v ≤ climbed n r p f y
        climbing_fits = omega (arith, w.rest, climbed-step f z w.low d)

        pub climbing_more : Climbing n r p f y (p z) (total + v)
        climbing_more = record { low = t.into z w.low; rest = omega (arith, w.rest, climbed-step f z w.low d) }
