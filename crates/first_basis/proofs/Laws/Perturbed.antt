-- The masses that the search balances: scaled by 64, with one grain more at each vertex but 0, where they all go. No subtree balances, and
-- a subtree's surplus has the sign of the true one, or the true one is 0.
use Prim.Native.Nat.{ℕ, ◌+◌, ◌-◌, ◌*◌, ◌≤◌, ◌<◌}
use mathlib.Core.Path.{◌≡◌, refl, sym, ap, ◌∙◌}
use mathlib.Core.Bool.{Bool, true, false, cond}
use mathlib.Core.Logic.{inl, inr, ⊎_elim}
use native.Mathlib.Omega.{arith}
use lib.Dec.{eqb}
use borrow.Author.Tests.{ne_eqb}
use Rattle.arithmetic.specs.Sum.{pick, sum}
use Rattle.arithmetic.specs.Steps.Product.{Agrees}
use Rattle.arithmetic.proofs.Laws.Bools.{case≡, is_false}
use Rattle.arithmetic.proofs.Laws.Sum.{pick-zero, pick-le, sum_ext, sum-le, sum-add, sum-mul, sum_ge, sum_one, sum_change, sum-zero, sum_zeros}
use Rattle.rooted_tree.specs.Chain.{below}
use Rattle.rooted_tree.specs.Steps.Rooted.{Rooted}
use Rattle.rooted_tree.specs.Steps.Subtotal.{subtotal}
use Rattle.rooted_tree.proofs.Laws.Rooted.{refl_b, root_b}
use Rattle.first_basis.specs.Steps.Perturbed.{supply_of, demand_of}

-- a grain at each vertex but 0
others : (n : ℕ) → 0 < n → sum n (λ y. cond (eqb y 0) 0 1) + 1 ≡ n
others n h =
    omega (
      arith,
      sum_change n 0 (λ y. cond (eqb y 0) 0 1) (λ _. 1) h (λ y l d. rw (ne_eqb y 0 d)),
      sum_one n,
    )

module _ (n : ℕ) (some : 0 < n) where
  pub supply_total : (mu : ℕ → ℕ) → sum n (supply_of mu) + 1 ≡ 64 * sum n mu + n
  supply_total mu =
      omega (arith, sum-add n (λ y. 64 * mu y) (λ y. cond (eqb y 0) 0 1), sum-mul n 64 mu, others n some)

  pub demand_total : (nu : ℕ → ℕ) → sum n (demand_of n nu) + 1 ≡ 64 * sum n nu + n
  demand_total nu =
      omega (
        arith,
        sum-add n (λ y. 64 * nu y) (λ y. cond (eqb y 0) (n - 1) 0),
        sum-mul n 64 nu,
        sum_change n 0 (λ y. cond (eqb y 0) (n - 1) 0) (λ _. 0) some (λ y l d. rw (ne_eqb y 0 d)),
        sum-zero n,
      )

module _ {n : ℕ} {p : ℕ → ℕ} (t : Rooted n 0 p) (few : n ≤ 64) (x : ℕ) (low : x < n) (inner : x ≡ 0 → ⊥) where
  -- a scaled mass below x, and what was added to it
  scaled : (m f : ℕ → ℕ)
      → subtotal p n (λ y. 64 * m y + f y) x ≡ 64 * subtotal p n m x + sum n (λ y. pick (below p n y x) (f y))
  unfolding subtotal
  scaled m f =
      sum_ext n _ _ (λ y l. split (below p n y x) (64 * m y) (f y))
      ∙ sum-add n (λ y. pick (below p n y x) (64 * m y)) (λ y. pick (below p n y x) (f y))
      ∙ ap (λ (s : ℕ). s + sum n (λ y. pick (below p n y x) (f y)))
      (sum_ext n _ _ (λ y l. times (below p n y x) (m y)) ∙ sum-mul n 64 (λ y. pick (below p n y x) (m y)))
    where
      split : (b : Bool) (u w : ℕ) → pick b (u + w) ≡ pick b u + pick b w
      split true u w = refl
      split false u w = refl

      times : (b : Bool) (u : ℕ) → pick b (64 * u) ≡ 64 * pick b u
      times true u = refl
      times false u = refl

  -- how many vertices are below x
  size : ℕ
  size = sum n (λ y. pick (below p n y x) (cond (eqb y 0) 0 1))

  size_some : 0 < size
  unfolding size
  size_some =
      omega (
        arith,
        sum_ge n x (λ y. pick (below p n y x) (cond (eqb y 0) 0 1)) low,
        ap (λ (b : Bool). pick b (cond (eqb x 0) 0 1)) (refl_b t x low),
        ap {B = ℕ} (λ (b : Bool). cond b 0 1) (ne_eqb x 0 inner),
      )

  size_few : size < 64
  unfolding size
  size_few =
      omega (
        arith,
        sum-le n (λ y. pick (below p n y x) (cond (eqb y 0) 0 1)) (λ y. cond (eqb y 0) 0 1) (λ y l. pick-le (below p n y x) _),
        others n (omega arith),
      )

  supply_below : (mu : ℕ → ℕ) → subtotal p n (supply_of mu) x ≡ 64 * subtotal p n mu x + size
  unfolding size
  supply_below mu = scaled mu (λ y. cond (eqb y 0) 0 1)

  demand_below : (nu : ℕ → ℕ) → subtotal p n (demand_of n nu) x ≡ 64 * subtotal p n nu x
  demand_below nu =
      omega (
        arith,
        scaled nu (λ y. cond (eqb y 0) (n - 1) 0),
        sum_zeros n (λ y. pick (below p n y x) (cond (eqb y 0) (n - 1) 0)) (λ y l.
            case≡ y 0
            (λ e. rw (e, is_false (below p n 0 x) (λ h. inner (sym (root_b t x h)))))
            (λ d. rw (ne_eqb y 0 d) (pick-zero (below p n y x)))),
      )

  -- no subtree balances
  pub unbalanced : (mu nu : ℕ → ℕ) → subtotal p n (supply_of mu) x ≡ subtotal p n (demand_of n nu) x → ⊥
  unbalanced mu nu e = omega (arith, supply_below mu, demand_below nu, size_some, size_few)

  -- what agrees with the perturbed masses agrees with the true ones
  pub true-agrees : (mu nu : ℕ → ℕ) (u w l : ℕ) → Agrees u w l (subtotal p n (supply_of mu) x) (subtotal p n (demand_of n nu) x)
      → Agrees u w l (subtotal p n mu x) (subtotal p n nu x)
  true-agrees mu nu u w l =
      ⊎_elim
      (λ h. inl (omega (arith, supply_below mu, demand_below nu, size_few), h.1))
      (λ h. inr (omega (arith, supply_below mu, demand_below nu), h.1))
