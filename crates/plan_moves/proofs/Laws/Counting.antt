-- The count of a plan's moves.
use mir.Val.{bool_byte}
use Rattle.std.proofs.Common.{ℕ, Bool, true, false, ◌≡◌, refl, sym, ◌∙◌, ap, ◌+◌, ◌≤◌, ◌<◌, ltb, arith}
use borrow.Author.Tests.{ne_eqb}
use Rattle.arithmetic.specs.Sum.{sum, pick}
use Rattle.arithmetic.proofs.Laws.Bools.{eqb_self}
use Rattle.arithmetic.proofs.Laws.Sum.{pick-le, sum-le-mul, sum_change}
use Rattle.plan_moves.specs.Steps.Count.{is_move, positive_at, move_at}

-- a test as the number that code adds
as_number : (b : Bool) → bool_byte b ≡ pick b 1
as_number true = refl
as_number false = refl

pub counted : (t : ℕ → ℕ → ℕ) (i j : ℕ) (b : Bool) → b ≡ ltb 0 (t i j) → bool_byte b ≡ positive_at t i j
unfolding positive_at
counted t i j b e = as_number b ∙ ap (λ (x : Bool). pick x 1) e

module _ (t : ℕ → ℕ → ℕ) (i k : ℕ) where
  -- of the first k vertices at most k are sent something
  pub sent_few : sum k (positive_at t i) ≤ k
  unfolding positive_at
  sent_few = omega (arith, sum-le-mul k 1 (positive_at t i) (λ j _. pick-le (ltb 0 (t i j)) 1))

  pub row_few : sum k (move_at t i) ≤ k
  unfolding move_at
  row_few = omega (arith, sum-le-mul k 1 (move_at t i) (λ j _. pick-le (is_move t i j) 1))

-- the positive entries of row i are its moves, and its own entry
pub row_moves : (n : ℕ) (t : ℕ → ℕ → ℕ) (i count own : ℕ) → i < n → count ≡ sum n (positive_at t i) → own ≡ positive_at t i i
    → count ≡ sum n (move_at t i) + own
unfolding positive_at move_at
row_moves n t i count own l h e =
    let self : move_at t i i ≡ 0 = rw (eqb_self i) in
    omega (arith, h, e, self, sum_change n i (positive_at t i) (move_at t i) l (λ j _ d. rw (ne_eqb i j (λ z. d (sym z)))))
