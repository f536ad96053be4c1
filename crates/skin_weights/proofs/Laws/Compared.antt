-- What the comparisons with 0 and 1 say of a weight. 0.0 is `fin false 0 (pos 0)` and 1.0 is `fin false 1 (pos 0)`.
use Rattle.std.proofs.Common.{◌≡◌, ℕ, zero, suc, ◌+◌, ◌*◌, ◌<◌, ◌≤◌, true, false, ◌&&◌, ◌||◌, eqb, ltb, leb, ℤ, pos, refl, zero-lt-suc, mul-pos, zero-mul, arith, le-ltb, lt-ltb, eq-eqb, ne_eqb, eqb-true, le-leb, leb-true}
use mathlib.Core.Bool.{false≢true, and-false, or-true}
use native.Mathlib.Nat.{zero-div}
use lib.Ieee.{Float, nan, inf, fin, up, down, eq, lt, le}
use lib.Ieee.Fits.{up_pos, down_pos}
use borrow.Author.Tests.{lt-leb}
use Rattle.arithmetic.proofs.Laws.Bools.{case≡, case<, clash, and_l, and_r}
use Rattle.skin_weights.specs.Weight.{in_unit_interval, amount_of}

abbrev pub zero-f : Float
zero-f = fin false 0 (pos 0)

abbrev pub one_f : Float
one_f = fin false 1 (pos 0)

-- what is in the interval: negative zero, and from 0 to 1
pub data Within : Float → Type 0 where
  negative_zero : (e : ℤ) → Within (fin true 0 e)
  from_zero : (m : ℕ) (e : ℤ) → m * up e ≤ down e → Within (fin false m e)

pub within : (w : Float) → in_unit_interval w ≡ true → Within w
unfolding in_unit_interval
within nan h = absurd (false≢true h)
within (inf s) h = absurd (false≢true h)
within (fin false m e) h = from_zero m e (leb-true _ _ (and_l (leb (m * up e) (down e)) _ h))
within (fin true zero e) h = negative_zero e
within (fin true (suc m) e) h = absurd (omega (arith, eqb-true (suc m) 0 (and_r (leb (suc m * up e) (down e)) _ h)))

-- a float that is 0 has no digits
size_pos : (m : ℕ) (e : ℤ) → 0 < suc m * up e
size_pos m e = mul-pos (zero-lt-suc m) (up_pos e)

-- x ≤ d, as `le` asks it
le_test : (x d : ℕ) → ltb (x * 1) (1 * d) || (eqb (x * 1) (1 * d) && true) ≡ leb x d && true
le_test x d =
    case< x d
    (λ l. rw (lt-ltb (x * 1) (1 * d) (omega arith), le-leb x d (omega arith)))
    (λ g. case≡ x d
    (λ e. rw (le-ltb (x * 1) (1 * d) (omega arith), eq-eqb (x * 1) (1 * d) (omega arith), le-leb x d (omega arith)))
    (λ ne. rw (le-ltb (x * 1) (1 * d) (omega arith), ne_eqb (x * 1) (1 * d) (λ e. ne (omega arith)), lt-leb x d (omega arith))))

-- from 0 on, 1 decides
pub not-below-zero : (w : Float) → le zero-f w ≡ true → le w one_f ≡ in_unit_interval w
unfolding lt eq le in_unit_interval
not-below-zero nan h = refl
not-below-zero (inf true) h = absurd (false≢true h)
not-below-zero (inf false) h = refl
not-below-zero (fin false m e) h = le_test (m * up e) (down e)
not-below-zero (fin true zero e) h =
    rw (zero-mul (up e), lt-ltb 0 (0 * 1 + 1 * down e) (omega (arith, down_pos e)), le-leb 0 (down e) (omega arith))
not-below-zero (fin true (suc m) e) h =
    absurd (omega (arith, size_pos m e, eqb-true (0 * down e) (suc m * up e * 1) (and_l (eqb (0 * down e) (suc m * up e * 1)) _ h)))

-- what is not from 0 on is below it or no number
pub below-zero : (w : Float) → le zero-f w ≡ false → false ≡ in_unit_interval w
unfolding lt eq le in_unit_interval
below-zero nan h = refl
below-zero (inf s) h = refl
below-zero (fin false m e) h =
    case≡ 0 (m * up e)
    (λ z. clash (rw (eq-eqb (0 * down e) (m * up e * 1) (omega arith), or-true) refl) h)
    (λ d. clash (rw (lt-ltb (0 * down e) (m * up e * 1) (omega arith)) refl) h)
below-zero (fin true zero e) h =
    clash (rw (eq-eqb (0 * down e) (0 * up e * 1) (omega arith), eq-eqb (0 * down e) 0 (omega arith)) refl) h
below-zero (fin true (suc m) e) h = rw (ne_eqb (suc m) 0 (λ z. omega arith), and-false)

-- what equals 0 has the amount 0
pub zero-amount : (w : Float) → eq w zero-f ≡ true → 0 ≡ amount_of w
unfolding eq amount_of
zero-amount nan h = absurd (false≢true h)
zero-amount (inf s) h = absurd (false≢true h)
zero-amount (fin s m e) h =
    let z : m * up e ≡ 0 = omega (arith, eqb-true (m * up e * 1) (0 * down e) (and_l (eqb (m * up e * 1) (0 * down e)) _ h)) in
    rw (z, zero-div)

-- negative zero equals 0
pub equals_zero : (e : ℤ) → eq (fin true 0 e) zero-f ≡ true
unfolding eq
equals_zero e = rw (eq-eqb (0 * up e * 1) (0 * down e) (omega arith), eq-eqb (0 * up e * 1) 0 (omega arith)) refl
