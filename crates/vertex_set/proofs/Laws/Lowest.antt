-- The lowest number at which a test holds, and the lowest vertex of a word.
use mathlib.Core.Path.{◌≡◌, refl, sym, ap, ◌∙◌}
use mathlib.Core.Bool.{Bool, true, false, cond}
use Prim.Native.Nat.{ℕ, zero, suc, ◌+◌, ◌/◌, ◌%◌, ◌≤◌, ◌<◌, ◌^◌}
use native.Mathlib.Nat.{mod-lt, div-one, zero-add}
use native.Mathlib.Numerals.{add-one}
use native.Mathlib.Omega.{arith}
use lib.Count.{count_trailing_zeros, under}
use lib.Dec.{eqb, lit<}
use lib.Pow.{pow_pos, shr-shr}
use Rattle.arithmetic.specs.Mask.{mask}
use Rattle.arithmetic.specs.Steps.Mask.{bit}
use Rattle.arithmetic.proofs.Laws.Bools.{case, case≡, case<}
use Rattle.arithmetic.proofs.Laws.Mask.{mask_has}
use Rattle.vertex_set.specs.Lowest.{lowest}
use Rattle.vertex_set.proofs.Laws.Words.{mask_empty}

pub lowest-found : (f : ℕ → Bool) (k i : ℕ) → lowest f k i < i + k → f (lowest f k i) ≡ true
unfolding lowest
lowest-found f zero i h = absurd (omega arith)
lowest-found f (suc k) i h =
    case (f i)
    (λ e. rw e e)
    (λ e. let g : lowest f k (suc i) < i + suc k = rw e at h in rw e (lowest-found f k (suc i) (omega arith)))

pub lowest_none : (f : ℕ → Bool) (k i : ℕ) → i + k ≤ lowest f k i → (x : ℕ) → i ≤ x → x < i + k → f x ≡ false
unfolding lowest
lowest_none f zero i h x a l = absurd (omega arith)
lowest_none f (suc k) i h x a l =
    case (f i)
    (λ e. let g : i + suc k ≤ i = rw e at h in absurd (omega arith))
    (λ e.
    let g : i + suc k ≤ lowest f k (suc i) = rw e at h in
    case≡ x i (λ q. rw q e) (λ d. lowest_none f k (suc i) (omega arith) x (omega arith) (omega arith)))

pub lowest_ext : (f g : ℕ → Bool) (k i : ℕ) → ((x : ℕ) → x < i + k → f x ≡ g x) → lowest f k i ≡ lowest g k i
unfolding lowest
lowest_ext f g zero i h = refl
lowest_ext f g (suc k) i h = rw (h i (omega arith), lowest_ext f g k (suc i) (λ x l. h x (omega arith)))

-- it holds at no number before
pub lowest_before : (f : ℕ → Bool) (k i x : ℕ) → i ≤ x → x < lowest f k i → f x ≡ false
unfolding lowest
lowest_before f zero i x a l = absurd (omega arith)
lowest_before f (suc k) i x a l =
    case (f i)
    (λ e. let g : x < i = rw e at l in absurd (omega arith))
    (λ e. let g : x < lowest f k (suc i) = rw e at l in case≡ x i (λ q. rw q e) (λ d. lowest_before f k (suc i) x (omega arith) g))

-- where the test holds nowhere
pub lowest_absent : (f : ℕ → Bool) (k i : ℕ) → ((x : ℕ) → i ≤ x → x < i + k → f x ≡ false) → lowest f k i ≡ i + k
unfolding lowest
lowest_absent f zero i h = omega arith
lowest_absent f (suc k) i h =
    rw (h i (omega arith) (omega arith)) (omega (arith, lowest_absent f k (suc i) (λ x a l. h x (omega arith) (omega arith))))

-- the one that it is: the test holds there, and at no number before it
pub lowest_is : (f : ℕ → Bool) (k i x : ℕ) → i ≤ x → x < i + k → f x ≡ true → ((y : ℕ) → i ≤ y → y < x → f y ≡ false) → lowest f k i ≡ x
unfolding lowest
lowest_is f zero i x a l e n = absurd (omega arith)
lowest_is f (suc k) i x a l e n =
    case≡ x i
    (λ q. let here : f i ≡ true = ap f (sym q) ∙ e in rw here (sym q))
    (λ d. rw (n i (omega arith) (omega arith)) (lowest_is f k (suc i) x (omega arith) (omega arith) e (λ y g h. n y (omega arith) h)))

-- with more numbers to look at
pub lowest_more : (f : ℕ → Bool) (k m i : ℕ) → k ≤ m → lowest f k i < i + k → lowest f m i ≡ lowest f k i
unfolding lowest
lowest_more f zero m i l h = absurd (omega arith)
lowest_more f (suc k) zero i l h = absurd (omega arith)
lowest_more f (suc k) (suc m) i l h =
    case (f i) (λ e. rw e) (λ e. rw e (lowest_more f k m (suc i) (omega arith) (omega (arith, rw e at h))))

-- a word that is not empty has a lowest vertex, and an empty one has none
pub some_lowest : (n : ℕ) (f : ℕ → Bool) → (mask n f ≡ 0 → ⊥) → lowest f n 0 < n
some_lowest n f h =
    case< (lowest f n 0) n (λ l. l) (λ l. absurd (h (mask_empty n f (λ x k. lowest_none f n 0 (omega arith) x (omega arith) (omega arith)))))

pub empty_lowest : (n : ℕ) (f : ℕ → Bool) → mask n f ≡ 0 → n ≤ lowest f n 0
empty_lowest n f h =
    case< (lowest f n 0) n
    (λ l. absurd (omega (arith, pow_pos (lowest f n 0), mask_has n f (lowest f n 0) l (lowest-found f n 0 (omega arith)))))
    (λ l. l)

-- the zeros below the lowest set bit count up to it
lowest_zeros : (w k i : ℕ) → lowest (bit w) k i ≡ i + count_trailing_zeros k (w / 2 ^ i)
unfolding lowest count_trailing_zeros
lowest_zeros w zero i = omega arith
lowest_zeros w (suc k) i =
    go (w / 2 ^ i % 2) (mod-lt (w / 2 ^ i) (lit< tt))
    (lowest_zeros w k (suc i)
    ∙ ap (λ (x : ℕ). suc i + count_trailing_zeros k x) (ap (λ (x : ℕ). w / 2 ^ x) (sym (add-one i)) ∙ sym (shr-shr w i 1)))
  where
    go : (r : ℕ) → r < 2 → lowest (bit w) k (suc i) ≡ suc i + count_trailing_zeros k (w / 2 ^ i / 2)
        → cond (eqb r 1) i (lowest (bit w) k (suc i)) ≡ i + under r (count_trailing_zeros k (w / 2 ^ i / 2))
    go zero h next = omega (arith, next)
    go (suc zero) h next = omega arith
    go (suc (suc r)) h next = absurd (omega arith)

pub zeros_lowest : (n w : ℕ) → n ≤ 64 → w ≡ mask n (bit w) → (w ≡ 0 → ⊥) → count_trailing_zeros 64 w ≡ lowest (bit w) n 0
zeros_lowest n w h e d =
    sym (lowest_zeros w 64 0 ∙ zero-add _ ∙ ap (λ (x : ℕ). count_trailing_zeros 64 x) (div-one w))
    ∙ lowest_more (bit w) n 64 0 h (omega (arith, some_lowest n (bit w) (λ z. d (e ∙ z))))
