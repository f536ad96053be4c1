-- What the definitions are worth: an accepted weight is its amount over 2^24, each amount has its float, and there and back again is the same.
-- `HasValue x s a c` says that x is finite, has the sign s, and is a / c in size.
use Rattle.std.proofs.Common.{◌≡◌, ℕ, zero, suc, ◌*◌, ◌/◌, ◌%◌, ◌^◌, ◌<◌, ◌≤◌, Bool, true, false, T, eqb, ◌⊎◌, ℤ, sym, refl, ap, ◌∙◌, inl, inr, true≢false, lt_trans, mul-le-mul_right, mul_assoc, eq-or-lt_of_le, div-add-mod', zero-mul, mul_right_comm, le_of_mul-le-mul_right, mul-div_cancel, arith, lit<, shl_lt, eq-eqb, eqb-true, le-leb}
use native.Mathlib.Nat.{mul-mod_left, div-le_of_le-mul}
use lib.Ieee.{Float, nan, inf, fin, binary32, up, down, round, fits, to_bits, of_bits}
use lib.Ieee.Bits.{of_bits-to_bits}
use lib.Ieee.Nearest.{div_same}
use lib.Ieee.Exact.{HasValue, round_exact}
use lib.Ieee.Fits.{round-fits, down_pos}
use Rattle.skin_weights.specs.Weight.{in_unit_interval, whole_grains, amount_of, weight_of, positive_zero}
use Rattle.skin_weights.proofs.Laws.Compared.{Within, negative_zero, from_zero, within}

-- ---- in

divides : (a d : ℕ) → eqb (a % d) 0 ≡ true → a ≡ a / d * d
divides a d g = omega (arith, eqb-true (a % d) 0 g, div-add-mod' a d)

-- "the amount is the weight times 16,777,216, exact": the value of a weight that passes both tests is its amount over 2^24
pub amount_exact : (w : Float) → in_unit_interval w ≡ true → whole_grains w ≡ true → HasValue (positive_zero w) false (amount_of w) (2 ^ 24)
unfolding whole_grains amount_of positive_zero
amount_exact w u g = go w (within w u) g
  where
    go : (w : Float) → Within w → whole_grains w ≡ true → HasValue (positive_zero w) false (amount_of w) (2 ^ 24)
    go w (negative_zero e) g = (refl, divides (0 * up e * 2 ^ 24) (down e) g)
    go w (from_zero zero e l) g = (refl, divides (0 * up e * 2 ^ 24) (down e) g)
    go w (from_zero (suc m) e l) g = (refl, divides (suc m * up e * 2 ^ 24) (down e) g)

pub amount-le : (w : Float) → in_unit_interval w ≡ true → amount_of w ≤ 2 ^ 24
unfolding amount_of
amount-le w u = go w (within w u)
  where
    go : (w : Float) → Within w → amount_of w ≤ 2 ^ 24
    go w (negative_zero e) = div-le_of_le-mul (down e) (rw (zero-mul (up e)) (omega arith))
    go w (from_zero m e l) = div-le_of_le-mul (down e) (omega arith)

-- ---- out

weight_exact : (k : ℕ) → k ≤ 2 ^ 24 → HasValue (weight_of k) false k (2 ^ 24)
unfolding weight_of
weight_exact k h = go (eq-or-lt_of_le h)
  where
    go : (k ≡ 2 ^ 24) ⊎ (k < 2 ^ 24) → HasValue (round binary32 false k (2 ^ 24)) false k (2 ^ 24)
    go (inl e) = rw e (round_exact binary32 false (2 ^ 24) (2 ^ 24) 1 149 (lit< tt) (lit< tt) (lit< tt) refl)
    go (inr l) =
        round_exact binary32 false k (2 ^ 24) k 125 (lit< tt) l (lt_trans (shl_lt 24 125 l) (lit< tt)) (sym (mul_assoc k (2 ^ 125) (2 ^ 24)))

-- a float of the value k / 2^24 passes both tests, and its amount is k
pub record Weighs (k : ℕ) (w : Float) : Type 0 where
  pub unit : in_unit_interval w ≡ true
  pub whole : whole_grains w ≡ true
  pub amount : amount_of w ≡ k

of_value : (w : Float) (k : ℕ) → HasValue w false k (2 ^ 24) → k ≤ 2 ^ 24 → Weighs k w
unfolding in_unit_interval whole_grains amount_of
of_value nan k v h = absurd v
of_value (inf s) k v h = absurd v
of_value (fin true m e) k v h = absurd (true≢false v.0)
of_value (fin false m e) k v h =
    let l : m * up e ≤ down e = le_of_mul-le-mul_right {k = 2 ^ 24} (omega (arith, v.1, mul-le-mul_right (down e) h)) (lit< tt) in
    record {
      unit = rw (le-leb (m * up e) (down e) l) refl;
      whole = eq-eqb _ _ (ap (λ (x : ℕ). x % down e) v.1 ∙ mul-mod_left k (down e));
      amount = ap (λ (x : ℕ). x / down e) v.1 ∙ mul-div_cancel k (down_pos e);
    }

pub weighs : (k : ℕ) → k ≤ 2 ^ 24 → Weighs k (weight_of k)
weighs k h = of_value (weight_of k) k (weight_exact k h) h

-- "gives each amount from 0 to 16,777,216 its float, exactly": it has that value, and passes both tests
pub every-amount : (k : ℕ) → k ≤ 2 ^ 24 → HasValue (weight_of k) false k (2 ^ 24) × (in_unit_interval (weight_of k) ≡ true) × (whole_grains (weight_of k) ≡ true)
every-amount k h = (weight_exact k h, (weighs k h).unit, (weighs k h).whole)

-- ---- in and out again

-- two floats of one format with the same sign and size are one: they have the same bits
same_value : (x y : Float) (s : Bool) (a c : ℕ) → 0 < c → T (fits binary32 x) → T (fits binary32 y) → HasValue x s a c → HasValue y s a c → x ≡ y
unfolding to_bits
same_value x y s a c h f g u v =
    sym (of_bits-to_bits binary32 x f) ∙ ap (of_bits binary32) (bits x y u v) ∙ of_bits-to_bits binary32 y g
  where
    units : (m : ℕ) (e : ℤ) → m * up e * c ≡ a * down e → m * up e * 2 ^ 149 / down e ≡ a * 2 ^ 149 / c
    units m e q =
        div_same (m * up e * 2 ^ 149) (down e) (a * 2 ^ 149) c (down_pos e) h
        (mul_right_comm (m * up e) (2 ^ 149) c ∙ ap (λ (z : ℕ). z * 2 ^ 149) q ∙ mul_right_comm a (down e) (2 ^ 149))

    bits : (x y : Float) → HasValue x s a c → HasValue y s a c → to_bits binary32 x ≡ to_bits binary32 y
    bits nan _ u v = elim u [ ]
    bits (inf _) _ u v = elim u [ ]
    bits (fin t m e) nan u v = elim v [ ]
    bits (fin t m e) (inf _) u v = elim v [ ]
    bits (fin t m e) (fin w n d) u v = rw (u.0, v.0, units m e u.1, units n d v.1)

weight_fits : (k : ℕ) → T (fits binary32 (weight_of k))
unfolding weight_of
weight_fits k = round-fits binary32 false k (2 ^ 24)

zero_fits : (w : Float) → T (fits binary32 w) → T (fits binary32 (positive_zero w))
unfolding fits positive_zero
zero_fits nan f = f
zero_fits (inf s) f = f
zero_fits (fin s zero e) f = f
zero_fits (fin s (suc m) e) f = f

-- the weight, but for negative zero
pub back_again : (w : Float) → T (fits binary32 w) → in_unit_interval w ≡ true → whole_grains w ≡ true → weight_of (amount_of w) ≡ positive_zero w
back_again w f u g =
    same_value (weight_of (amount_of w)) (positive_zero w) false (amount_of w) (2 ^ 24) (lit< tt) (weight_fits (amount_of w)) (zero_fits w f)
    (weight_exact (amount_of w) (amount-le w u)) (amount_exact w u g)
