-- Words as sets: bit i of a word, and the word of a test.
use mathlib.Core.Path.{◌≡◌, refl, sym, ap, ◌∙◌}
use mathlib.Core.Bool.{Bool, true, false, not, ◌&&◌}
use Prim.Native.Nat.{ℕ, zero, suc, ◌+◌, ◌-◌, ◌*◌, ◌/◌, ◌%◌, ◌≤◌, ◌<◌, ◌^◌}
use native.Mathlib.Nat.{one-mul}
use native.Mathlib.Numerals.{add-one}
use native.Mathlib.Omega.{arith}
use lib.Dec.{eqb, lit<}
use lib.Pow.{shl_exact, pow-add, high, low, field, mod-mod-pow}
use borrow.Author.Tests.{ne_eqb}
use Rattle.arithmetic.specs.Sum.{pick, sum}
use Rattle.arithmetic.specs.Mask.{mask}
use Rattle.arithmetic.specs.Steps.Mask.{bit}
use Rattle.arithmetic.proofs.Laws.Bools.{case, case≡, eqb_self}
use Rattle.arithmetic.proofs.Laws.Sum.{sum_change}

pow-suc : (m : ℕ) → 2 ^ suc m ≡ 2 ^ m + 2 ^ m
pow-suc m = ap (λ (k : ℕ). 2 ^ k) (sym (add-one m)) ∙ rw (pow-add 2 m 1) (omega arith)

pub mask_lt : (m : ℕ) (p : ℕ → Bool) → mask m p < 2 ^ m
unfolding mask
mask_lt zero p = lit< tt
mask_lt (suc m) p = go (p m) (mask_lt m p)
  where
    go : (t : Bool) → mask m p < 2 ^ m → mask m p + pick t (2 ^ m) < 2 ^ suc m
    go true h = rw pow-suc (omega arith)
    go false h = rw pow-suc (omega arith)

pub mask_ext : (m : ℕ) (p q : ℕ → Bool) → ((i : ℕ) → i < m → p i ≡ q i) → mask m p ≡ mask m q
unfolding mask
mask_ext zero p q h = refl
mask_ext (suc m) p q h = rw (mask_ext m p q (λ i l. h i (omega arith)), h m (omega arith))

-- the bits below m of a number are those of its remainder by 2 ^ m
bit_low : (N m i : ℕ) → i < m → N % 2 ^ m / 2 ^ i % 2 ≡ N / 2 ^ i % 2
bit_low N m i h = go (m - suc i) (omega arith)
  where
    go : (j : ℕ) → m ≡ (j + 1) + i → N % 2 ^ m / 2 ^ i % 2 ≡ N / 2 ^ i % 2
    go j e = rw (e, field N (j + 1) i) (mod-mod-pow (N / 2 ^ i) j 1)

-- bit i of a word is what the test says of i
pub bit_mask : (m : ℕ) (p : ℕ → Bool) (i : ℕ) → i < m → bit (mask m p) i ≡ p i
unfolding mask
bit_mask zero p i h = absurd (omega arith)
bit_mask (suc m) p i h =
    case≡ i m
    (λ e. rw (split (p m), e) (top (p m)))
    (λ ne. rw (split (p m)) (rest (p m) (omega arith) ∙ bit_mask m p i (omega arith)))
  where
    split : (t : Bool) → mask m p + pick t (2 ^ m) ≡ pick t 1 * 2 ^ m + mask m p
    split true = omega arith
    split false = omega arith

    top : (t : Bool) → bit (pick t 1 * 2 ^ m + mask m p) m ≡ t
    top true = ap (λ (x : ℕ). eqb (x % 2) 1) (high 1 m (mask_lt m p))
    top false = ap (λ (x : ℕ). eqb (x % 2) 1) (high 0 m (mask_lt m p))

    rest : (t : Bool) → i < m → bit (pick t 1 * 2 ^ m + mask m p) i ≡ bit (mask m p) i
    rest t g = ap (λ (x : ℕ). eqb x 1) (sym (bit_low _ m i g) ∙ ap (λ (x : ℕ). x / 2 ^ i % 2) (low (pick t 1) m (mask_lt m p)))

-- the bits of a mask are its test's
pub mask_bits : (n : ℕ) (f : ℕ → Bool) (w : ℕ) → w ≡ mask n f → w ≡ mask n (bit w)
mask_bits n f w e = e ∙ mask_ext n f (bit w) (λ i l. sym (bit_mask n f i l) ∙ ap (λ (x : ℕ). bit x i) (sym e))

-- two tests that differ at i alone
mask-sum : (m : ℕ) (p : ℕ → Bool) → mask m p ≡ sum m (λ i. pick (p i) (2 ^ i))
unfolding mask sum
mask-sum zero p = refl
mask-sum (suc m) p = rw (mask-sum m p)

pub mask_change : (n i : ℕ) (f g : ℕ → Bool) → i < n → ((j : ℕ) → j < n → (j ≡ i → ⊥) → f j ≡ g j)
    → mask n f + pick (g i) (2 ^ i) ≡ mask n g + pick (f i) (2 ^ i)
mask_change n i f g l h =
    rw (mask-sum n f, mask-sum n g) (sum_change n i (λ j. pick (f j) (2 ^ j)) (λ j. pick (g j) (2 ^ j)) l (λ j k d. rw (h j k d)))

-- a mask is that without x, and x
pub mask-take : (n : ℕ) (f : ℕ → Bool) (x : ℕ) → x < n → f x ≡ true → mask n f ≡ mask n (λ y. f y && not (eqb y x)) + 2 ^ x
mask-take n f x l e =
    omega (
      arith,
      rw (eqb_self x, e) at (mask_change n x f (λ y. f y && not (eqb y x)) l (λ y _ d. rw (ne_eqb y x d) (case (f y) (λ z. cc) (λ z. cc)))),
    )

pub mask_has : (n : ℕ) (f : ℕ → Bool) (x : ℕ) → x < n → f x ≡ true → 2 ^ x ≤ mask n f
mask_has n f x l e = omega (arith, mask-take n f x l e)

-- a vertex alone, as code shifts it
pub shl_one : (x : ℕ) → x < 64 → (1 * 2 ^ x) % 2 ^ 64 ≡ 2 ^ x
shl_one x h = shl_exact 1 x 64 (lit< tt) (omega arith) ∙ one-mul _
