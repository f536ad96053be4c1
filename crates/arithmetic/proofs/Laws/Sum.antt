-- Finite sums of naturals: `sum n f` is f 0 + .. + f (n - 1).
use Prim.Native.Nat.{ℕ, zero, suc, ◌+◌, ◌*◌, ◌≤◌, ◌<◌}
use mathlib.Core.Path.{◌≡◌, refl, sym, ap, ◌∙◌}
use mathlib.Core.Bool.{Bool, true, false}
use native.Mathlib.Numerals.{add-one}
use native.Mathlib.Omega.{arith}
use lib.Dec.{eqb}
use borrow.Author.Tests.{eq-eqb, ne_eqb}
use Rattle.arithmetic.specs.Sum.{pick, sum}
use Rattle.arithmetic.proofs.Laws.Bools.{case≡, case<, eqb_sym}

pub pick-zero : (b : Bool) → pick b 0 ≡ 0
pick-zero true = refl
pick-zero false = refl

pub pick-le : (b : Bool) (v : ℕ) → pick b v ≤ v
pick-le true v = omega arith
pick-le false v = omega arith

pub pick-mul : (b : Bool) (v s : ℕ) → pick b v * s ≡ pick b (v * s)
pick-mul true v s = refl
pick-mul false v s = omega arith

pub sum-nil : (f : ℕ → ℕ) → sum 0 f ≡ 0
unfolding sum
sum-nil f = refl

-- one more term, as code counts: n + 1
pub sum_step : (n : ℕ) (f : ℕ → ℕ) → sum (n + 1) f ≡ sum n f + f n
unfolding sum
sum_step n f = rw add-one

-- the first term apart
pub sum_shift : (n : ℕ) (f : ℕ → ℕ) → sum (n + 1) f ≡ f 0 + sum n (λ i. f (1 + i))
unfolding sum
sum_shift zero f = omega arith
sum_shift (suc n) f =
    let e : suc n ≡ 1 + n = omega arith in
    omega (arith, sum_step (suc n) f, ap (λ (x : ℕ). sum x f) (sym (add-one n)), sum_shift n f, ap f e)

pub sum_ext : (n : ℕ) (f g : ℕ → ℕ) → ((i : ℕ) → i < n → f i ≡ g i) → sum n f ≡ sum n g
unfolding sum
sum_ext zero f g h = refl
sum_ext (suc n) f g h = omega (arith, sum_ext n f g (λ i l. h i (omega arith)), h n (omega arith))

pub sum-le : (n : ℕ) (f g : ℕ → ℕ) → ((i : ℕ) → i < n → f i ≤ g i) → sum n f ≤ sum n g
unfolding sum
sum-le zero f g h = omega arith
sum-le (suc n) f g h = omega (arith, sum-le n f g (λ i l. h i (omega arith)), h n (omega arith))

-- strictly less, where one term is
pub sum_lt : (n : ℕ) (f g : ℕ → ℕ) (k : ℕ) → k < n → f k < g k → ((i : ℕ) → i < n → f i ≤ g i) → sum n f < sum n g
unfolding sum
sum_lt zero f g k l s h = absurd (omega arith)
sum_lt (suc n) f g k l s h =
    case≡ k n
    (λ e. omega (arith, sum-le n f g (λ i l. h i (omega arith)), ap f e, ap g e))
    (λ d. omega (arith, sum_lt n f g k (omega arith) s (λ i l. h i (omega arith)), h n (omega arith)))

-- terms that are no more than the others' are equal to them if the sums are
pub sum_equal : (n : ℕ) (f g : ℕ → ℕ) → ((i : ℕ) → i < n → f i ≤ g i) → sum n f ≡ sum n g → (i : ℕ) → i < n → f i ≡ g i
sum_equal n f g h e i l =
    case< (f i) (g i) (λ s. absurd (omega (arith, sum_lt n f g i l s h, e))) (λ s. omega (arith, h i l))

pub sum-zero : (n : ℕ) → sum n (λ i. 0) ≡ 0
unfolding sum
sum-zero zero = refl
sum-zero (suc n) = omega (arith, sum-zero n)

pub sum_one : (n : ℕ) → sum n (λ i. 1) ≡ n
unfolding sum
sum_one zero = refl
sum_one (suc n) = omega (arith, sum_one n)

pub sum_same : (n k : ℕ) (f : ℕ → ℕ) → ((i : ℕ) → i < n → f i ≡ k) → sum n f ≡ n * k
unfolding sum
sum_same zero k f h = omega arith
sum_same (suc n) k f h = omega (arith, sum_same n k f (λ i l. h i (omega arith)), h n (omega arith))

pub sum-add : (n : ℕ) (f g : ℕ → ℕ) → sum n (λ i. f i + g i) ≡ sum n f + sum n g
unfolding sum
sum-add zero f g = refl
sum-add (suc n) f g = omega (arith, sum-add n f g)

pub sum-mul : (n c : ℕ) (f : ℕ → ℕ) → sum n (λ i. c * f i) ≡ c * sum n f
unfolding sum
sum-mul zero c f = omega arith
sum-mul (suc n) c f = omega (arith, sum-mul n c f)

-- two sums change places
pub sum_swap : (n m : ℕ) (f : ℕ → ℕ → ℕ) → sum n (λ i. sum m (λ j. f i j)) ≡ sum m (λ j. sum n (λ i. f i j))
unfolding sum
sum_swap zero m f = sym (sum-zero m)
sum_swap (suc n) m f = omega (arith, sum_swap n m f, sum-add m (λ j. sum n (λ i. f i j)) (λ j. f n j))

-- a test that does not depend on the index
pub sum-pick : (n : ℕ) (b : Bool) (f : ℕ → ℕ) → sum n (λ i. pick b (f i)) ≡ pick b (sum n f)
sum-pick n true f = refl
sum-pick n false f = sum-zero n

-- a sum is at least each of its terms
pub sum_ge : (n i : ℕ) (f : ℕ → ℕ) → i < n → f i ≤ sum n f
unfolding sum
sum_ge zero i f l = absurd (omega arith)
sum_ge (suc n) i f l = case≡ n i (λ e. omega (arith, ap f e)) (λ d. omega (arith, sum_ge n i f (omega arith)))

-- the first terms of a sum are at most the whole
pub sum_front : (m n : ℕ) (f : ℕ → ℕ) → m ≤ n → sum m f ≤ sum n f
unfolding sum
sum_front m zero f l = let e : m ≡ 0 = omega arith in rw e (omega arith)
sum_front m (suc n) f l = case≡ m (suc n) (λ e. rw e (omega arith)) (λ d. omega (arith, sum_front m n f (omega arith)))

-- n terms of at most k each
pub sum-le-mul : (n k : ℕ) (f : ℕ → ℕ) → ((i : ℕ) → i < n → f i ≤ k) → sum n f ≤ n * k
unfolding sum
sum-le-mul zero k f h = omega arith
sum-le-mul (suc n) k f h = omega (arith, sum-le-mul n k f (λ i l. h i (omega arith)), h n (omega arith))

-- one term changed
pub sum_change : (n i : ℕ) (f g : ℕ → ℕ) → i < n → ((j : ℕ) → j < n → (j ≡ i → ⊥) → f j ≡ g j) → sum n f + g i ≡ sum n g + f i
unfolding sum
sum_change zero i f g l h = absurd (omega arith)
sum_change (suc n) i f g l h =
    case≡ n i
    (λ e. omega (arith, ap f e, ap g e, sum_ext n f g (λ j k. h j (omega arith) (omega arith))))
    (λ d. omega (arith, h n (omega arith) d, sum_change n i f g (omega arith) (λ j k. h j (omega arith))))

-- one index alone
pub sum_only : (n i : ℕ) (f : ℕ → ℕ) → i < n → sum n (λ j. pick (eqb j i) (f j)) ≡ f i
sum_only n i f l =
    omega (
      arith,
      sum_change n i (λ j. pick (eqb j i) (f j)) (λ _. 0) l (λ j k d. rw (ne_eqb j i d)),
      sum-zero n,
      ap (λ (b : Bool). pick b (f i)) (eq-eqb i i refl),
    )

-- the same, with the test the other way round
pub sum_only' : (n i : ℕ) (f : ℕ → ℕ) → i < n → sum n (λ j. pick (eqb i j) (f j)) ≡ f i
sum_only' n i f l = sum_ext n _ _ (λ j k. rw (eqb_sym i j)) ∙ sum_only n i f l

-- no term but zeros
pub sum_zeros : (n : ℕ) (f : ℕ → ℕ) → ((i : ℕ) → i < n → f i ≡ 0) → sum n f ≡ 0
sum_zeros n f h = sum_ext n f (λ i. 0) h ∙ sum-zero n
