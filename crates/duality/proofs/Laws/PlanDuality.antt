-- Weak duality of a transport plan and a potential.
use Prim.Native.Nat.{ℕ, ◌+◌, ◌*◌, ◌≤◌, ◌<◌}
use mathlib.Core.Path.{◌≡◌, sym, ap, ◌∙◌}
use native.Mathlib.Nat.{mul-le-mul_left}
use native.Mathlib.Omega.{arith}
use Rattle.arithmetic.specs.Sum.{sum}
use Rattle.arithmetic.proofs.Laws.Sum.{sum_ext, sum-le, sum-add, sum-mul, sum_swap}

module _ (n : ℕ) (U : ℕ → ℕ) (d g : ℕ → ℕ → ℕ) (m v : ℕ → ℕ)
    (near : (i j : ℕ) → i < n → j < n → U i ≤ U j + d i j)
    (rows : (i : ℕ) → i < n → sum n (λ j. g i j) ≡ m i)
    (cols : (j : ℕ) → j < n → sum n (λ i. g i j) ≡ v j) where
  -- the potential over the sources, and over the targets, as double sums
  sources : sum n (λ i. U i * m i) ≡ sum n (λ i. sum n (λ j. U i * g i j))
  sources =
      sum_ext n _ _ (λ i l. ap (λ (x : ℕ). U i * x) (sym (rows i l)) ∙ sym (sum-mul n (U i) (g i)))

  targets : sum n (λ j. U j * v j) ≡ sum n (λ i. sum n (λ j. U j * g i j))
  targets =
      sum_ext n _ _ (λ j l. ap (λ (x : ℕ). U j * x) (sym (cols j l)) ∙ sym (sum-mul n (U j) (λ i. g i j)))
      ∙ sum_swap n n (λ j i. U j * g i j)

  row : (i : ℕ) → i < n → sum n (λ j. U i * g i j) ≤ sum n (λ j. U j * g i j) + sum n (λ j. g i j * d i j)
  row i li =
      omega (
        arith,
        sum-le n (λ j. U i * g i j) (λ j. U j * g i j + g i j * d i j)
            (λ j lj. omega (arith, mul-le-mul_left (g i j) (near i j li lj))),
        sum-add n (λ j. U j * g i j) (λ j. g i j * d i j),
      )

  pub plan_weak : sum n (λ i. U i * m i) ≤ sum n (λ j. U j * v j) + sum n (λ i. sum n (λ j. g i j * d i j))
  plan_weak =
      omega (
        arith,
        sources,
        targets,
        sum-le n (λ i. sum n (λ j. U i * g i j)) (λ i. sum n (λ j. U j * g i j) + sum n (λ j. g i j * d i j)) row,
        sum-add n (λ i. sum n (λ j. U j * g i j)) (λ i. sum n (λ j. g i j * d i j)),
      )
