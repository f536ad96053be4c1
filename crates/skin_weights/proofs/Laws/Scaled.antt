-- A weight times 2^24: the product is exact, and what it is cut to, cast to and compared with. 16777216.0 is `fin false 1 (pos 24)`.
use Rattle.std.proofs.Common.{◌≡◌, ℕ, zero, suc, ◌+◌, ◌-◌, ◌*◌, ◌/◌, ◌%◌, ◌^◌, ◌<◌, ◌≤◌, Bool, true, false, ◌&&◌, ◌||◌, T, eqb, ltb, leb, ℤ, pos, negsuc, sym, refl, ap, ◌∙◌, subst, true≢false, le_trans, le_of_eq, lt_of_le_of_lt, mul-le-mul_right, mul_assoc, mul_comm, mul-pos, lt_of_not-le, div-add-mod', zero-mul, mul-one, not-le_of_lt, le_of_mul-le-mul_right, mul-div_cancel, arith, lit<, le→leb, ltb→lt, lt→ltb, leb→le, pow-add, lt-ltb, eq-eqb, ne_eqb, eqb-true, le-leb}
use mathlib.Core.Bool.{beq}
use native.Mathlib.Nat.{eq_of_mul-eq-mul_right, div-le_of_le-mul, mul-mod_left, zero-div}
use lib.Pow.{pow-lt}
use lib.Ieee.{Float, nan, inf, fin, binary32, up, down, round, mul, div, eq, lt, fits, of_int, to_unsigned, in_unsigned, in_float}
use lib.Ieee as ieee
use lib.Ieee.Digits.{back}
use lib.Ieee.Exact.{HasValue, round_exact}
use lib.Ieee.Fits.{down_pos, and_l, and_r}
use lib.Ieee.Back.{round_whole}
use lib.Ieee.Nearest.{div_same}
use lib.Ieee.Scale.{round_same}
use denote.Floats.{passes}
use Rattle.arithmetic.proofs.Laws.Bools.{case≡, clash, is_false}
use Rattle.skin_weights.specs.Weight.{in_unit_interval, whole_grains, amount_of, weight_of}
use Rattle.skin_weights.proofs.Laws.Compared.{zero-f, Within, negative_zero, from_zero, within, equals_zero}

abbrev pub grains_f : Float
grains_f = fin false 1 (pos 24)

-- ---- the product is exact

-- a weight whose last place is up e / down e is a multiple of the smallest float, 2^24 times it too
shift : (e : ℤ) → T (leb (down e) (2 ^ 149)) → (j : ℕ) × (2 ^ j * down e ≡ up e * 2 ^ 173)
shift (pos k) h = (k + 173, mul-one (2 ^ (k + 173)) ∙ pow-add 2 k 173)
shift (negsuc k) h =
    let l : suc k ≤ 149 = low k (leb→le (2 ^ suc k) (2 ^ 149) h) in
    (173 - suc k, sym (pow-add 2 (173 - suc k) (suc k)) ∙ ap (λ (x : ℕ). 2 ^ x) (back 173 (suc k) (omega arith)))
  where
    low : (k : ℕ) → 2 ^ suc k ≤ 2 ^ 149 → suc k ≤ 149
    low k h = lt_of_not-le (λ (g : 149 ≤ k). not-le_of_lt (pow-lt {i = 149} {j = suc k} (omega arith)) h)

parts : (a b c d : Bool) → T (a && b && c && d) → T b × T c
parts a b c d t = (and_r a b (and_l (a && b) c (and_l (a && b && c) d t)), and_r (a && b) c (and_l (a && b && c) d t))

-- of a number that fits, 2^24 times it is rounded to itself
exactly : (s : Bool) (m : ℕ) (e : ℤ) → T (fits binary32 (fin s m e)) → m * up e ≤ down e
    → HasValue (round binary32 s (m * up e * 2 ^ 24) (down e * 1)) s (m * up e * 2 ^ 24) (down e * 1)
unfolding fits
exactly s zero e f h =
    round_exact binary32 s (0 * up e * 2 ^ 24) (down e * 1) 0 0 (omega (arith, down_pos e)) (lit< tt) (lit< tt) (rw (zero-mul (up e)) (sym (zero-mul (down e * 1))))
exactly s (suc m) e f h =
    let k = parts (eqb (suc m % 2) 1) (ltb (suc m) (2 ^ 24)) (leb (down e) (2 ^ 149)) (ltb (suc m * up e) (2 ^ 128 * down e)) f in
    let small : suc m < 2 ^ 24 = ltb→lt (suc m) (2 ^ 24) k.0 in
    let deep = k.1 in
    let j = (shift e deep).0 in
    let same : suc m * 2 ^ j * down e ≡ suc m * up e * 2 ^ 173 = mul_assoc (suc m) (2 ^ j) (down e) ∙ ap (λ (x : ℕ). suc m * x) (shift e deep).1 ∙ sym (mul_assoc (suc m) (up e) (2 ^ 173)) in
    let fine : suc m * 2 ^ j ≤ 2 ^ 173 = le_of_mul-le-mul_right {k = down e} (le_trans (le_of_eq same) (le_trans (mul-le-mul_right (2 ^ 173) h) (le_of_eq (mul_comm (down e) (2 ^ 173))))) (down_pos e) in
    round_exact binary32 s (suc m * up e * 2 ^ 24) (down e * 1) (suc m) j
    (omega (arith, down_pos e))
    small
    (lt_of_le_of_lt fine (lit< tt))
    (mul_assoc (suc m * up e) (2 ^ 24) (2 ^ 149) ∙ sym same ∙ ap (λ (d : ℕ). suc m * 2 ^ j * d) (sym (mul-one (down e))))

pub product : (s : Bool) (m : ℕ) (e : ℤ) → T (fits binary32 (fin s m e)) → m * up e ≤ down e
    → HasValue (mul binary32 (fin s m e) grains_f) s (m * up e * 2 ^ 24) (down e)
unfolding mul
product true m e f h = subst (λ (d : ℕ). HasValue (mul binary32 (fin true m e) grains_f) true (m * up e * 2 ^ 24) d) (mul-one (down e)) (exactly true m e f h)
product false m e f h = subst (λ (d : ℕ). HasValue (mul binary32 (fin false m e) grains_f) false (m * up e * 2 ^ 24) d) (mul-one (down e)) (exactly false m e f h)

-- ---- a float x of the value A / B, which is at most 2^24, and 0 where x is negative

module _ (s : Bool) (A B : ℕ) (b : 0 < B) (h : A ≤ 2 ^ 24 * B) (z : s ≡ true → A ≡ 0) where
  quotient_le : A / B ≤ 2 ^ 24
  quotient_le = div-le_of_le-mul B (omega arith)

  -- in size no more than 2^24
  size_le : (m : ℕ) (e : ℤ) → m * up e * B ≡ A * down e → m * up e ≤ 2 ^ 24 * down e
  size_le m e v = le_of_mul-le-mul_right {k = B} (omega (arith, v, mul-le-mul_right (down e) h)) b

  size_zero : (m : ℕ) (e : ℤ) → m * up e * B ≡ A * down e → A ≡ 0 → m * up e ≡ 0
  size_zero m e v n = eq_of_mul-eq-mul_right B b (m * up e) 0 (v ∙ ap (λ (a : ℕ). a * down e) n ∙ omega arith)

  -- it may be cut
  pub above : (x : Float) → HasValue x s A B → T (lt (fin true 1 (pos 0)) x)
  unfolding lt
  above nan v = absurd v
  above (inf t) v = absurd v
  above (fin true m e) v = lt→ltb (m * up e * 1) (1 * down e) (omega (arith, size_zero m e v.1 (z (sym v.0)), down_pos e))
  above (fin false m e) v = lt→ltb 0 (1 * down e + m * up e * 1) (omega (arith, down_pos e))

  pub below : (x : Float) → HasValue x s A B → T (lt x (fin false 1 (pos 64)))
  unfolding lt
  below nan v = absurd v
  below (inf t) v = absurd v
  below (fin true m e) v = lt→ltb 0 (m * up e * 1 + 2 ^ 64 * down e) (omega (arith, down_pos e))
  below (fin false m e) v = lt→ltb (m * up e * 1) (2 ^ 64 * down e) (omega (arith, size_le m e v.1, down_pos e))

  pub cut : (x : Float) → HasValue x s A B → to_unsigned 64 x ≡ A / B
  unfolding to_unsigned
  cut nan v = absurd v
  cut (inf t) v = absurd v
  cut (fin true m e) v = rw (z (sym v.0)) (sym (zero-div B))
  cut (fin false m e) v =
      let q : m * up e / down e ≡ A / B = div_same (m * up e) (down e) A B (down_pos e) b v.1 in
      omega (arith, q, quotient_le)

  -- the cut number is a float
  pub cut_is_float : T (in_float binary32 (pos (A / B)))
  unfolding in_float
  cut_is_float = le→leb (A / B) (2 ^ 24) quotient_le

  -- the cut number as n × 2 ^ d and the product as m × 2 ^ e: the same exactly if nothing is cut off
  module _ (n : ℕ) (d : ℤ) (m : ℕ) (e : ℤ) (u : n * up d * 1 ≡ A / B * down d) (v : m * up e * B ≡ A * down e) where
    same : A % B ≡ 0 → n * up d * down e ≡ m * up e * down d
    same r =
        let q : A / B * B ≡ A = omega (arith, div-add-mod' A B) in
        eq_of_mul-eq-mul_right B b (n * up d * down e) (m * up e * down d)
        (omega (arith, ap (λ (x : ℕ). x * down e * B) u, ap (λ (x : ℕ). x * down d * down e) q, ap (λ (x : ℕ). x * down d) v))

    whole : n * up d * down e ≡ m * up e * down d → A % B ≡ 0
    whole g =
        let q : A / B * B ≡ A =
        eq_of_mul-eq-mul_right (down e * down d) (mul-pos (down_pos e) (down_pos d)) (A / B * B) A
        (omega (arith, ap (λ (x : ℕ). x * down e * B) u, ap (λ (x : ℕ). x * B) g, ap (λ (x : ℕ). x * down d) v)) in
        omega (arith, q, div-add-mod' A B)

  -- and a negative one is 0
  signed : (t : Bool) (n : ℕ) (d e : ℤ) → n * up d * 1 ≡ A / B * down d → (t ≡ true → A ≡ 0) → beq false t || eqb (n * up d * down e) 0 ≡ true
  signed false n d e u g = refl
  signed true n d e u g =
      let q : A / B ≡ 0 = ap (λ (x : ℕ). x / B) (g refl) ∙ zero-div B in
      let p : n * up d ≡ 0 = omega (arith, u, ap (λ (x : ℕ). x * down d) q) in
      eq-eqb (n * up d * down e) 0 (ap (λ (x : ℕ). x * down e) p ∙ zero-mul (down e))

  -- it equals x exactly if nothing is cut off
  pub cut_test : (x : Float) → HasValue x s A B → eq (of_int binary32 (pos (A / B))) x ≡ eqb (A % B) 0
  unfolding of_int eq
  cut_test x v = go (round binary32 false (A / B) 1) x (round_whole binary32 false (A / B) quotient_le) v
    where
      go : (y x : Float) → HasValue y false (A / B) 1 → HasValue x s A B → eq y x ≡ eqb (A % B) 0
      go nan x u v = absurd u
      go (inf t) x u v = absurd u
      go (fin true n d) x u v = absurd (true≢false u.0)
      go (fin false n d) nan u v = absurd v
      go (fin false n d) (inf t) u v = absurd v
      go (fin false n d) (fin t m e) u v =
          case≡ (A % B) 0
          (λ r. rw (r, eq-eqb (n * up d * down e) (m * up e * down d) (same n d m e u.1 v.1 r)) (signed t n d e u.1 (λ g. z (sym v.0 ∙ g))))
          (λ k. rw (ne_eqb (A % B) 0 k, ne_eqb (n * up d * down e) (m * up e * down d) (λ g. k (whole n d m e u.1 v.1 g))))

  -- where nothing is cut off and x is not negative, the cast loses nothing
  pub may_cast : (x : Float) → HasValue x false A B → A % B ≡ 0 → T (in_unsigned binary32 64 x)
  unfolding ieee.whole in_unsigned
  may_cast nan v r = absurd v
  may_cast (inf t) v r = absurd v
  may_cast (fin true m e) v r = absurd (true≢false v.0)
  may_cast (fin false m e) v r =
      let q : A / B * B ≡ A = omega (arith, div-add-mod' A B) in
      let p : m * up e ≡ A / B * down e = eq_of_mul-eq-mul_right B b (m * up e) (A / B * down e) (omega (arith, v.1, ap (λ (x : ℕ). x * down e) q)) in
      let c : m * up e / down e ≡ A / B = ap (λ (x : ℕ). x / down e) p ∙ mul-div_cancel (A / B) (down_pos e) in
      let k : m * up e % down e ≡ 0 = ap (λ (x : ℕ). x % down e) p ∙ mul-mod_left (A / B) (down e) in
      rw (c, k, le-leb (A / B) (2 ^ 24) quotient_le, lt-ltb (A / B) (2 ^ 64) (omega (arith, quotient_le))) tt

-- ---- the product of a weight by 2^24

-- what is known of it: its sign, its value over / under, and what that says of the weight
pub record Scales (w x : Float) : Type 0 where
  pub sign : Bool
  pub over : ℕ
  pub under : ℕ
  pub positive : 0 < under
  pub small : over ≤ 2 ^ 24 * under
  pub negative : sign ≡ true → over ≡ 0
  pub zero_is : sign ≡ true → eq w zero-f ≡ true
  pub value : HasValue x sign over under
  pub whole_is : eqb (over % under) 0 ≡ whole_grains w
  pub amount_is : over / under ≡ amount_of w

pub scales : (w : Float) → fits binary32 w ≡ true → in_unit_interval w ≡ true → Scales w (mul binary32 w grains_f)
unfolding whole_grains amount_of
scales w f u = go w (passes _ f) (within w u)
  where
    go : (w : Float) → T (fits binary32 w) → Within w → Scales w (mul binary32 w grains_f)
    go w f (negative_zero e) = record {
      sign = true;
      over = 0 * up e * 2 ^ 24;
      under = down e;
      positive = down_pos e;
      small = rw (zero-mul (up e)) (omega arith);
      negative = λ h. rw (zero-mul (up e)) refl;
      zero_is = λ h. equals_zero e;
      value = product true 0 e f (rw (zero-mul (up e)) (omega arith));
      whole_is = refl;
      amount_is = refl;
    }
    go w f (from_zero m e l) = record {
      sign = false;
      over = m * up e * 2 ^ 24;
      under = down e;
      positive = down_pos e;
      small = omega arith;
      negative = λ h. absurd (true≢false (sym h));
      zero_is = λ h. absurd (true≢false (sym h));
      value = product false m e f l;
      whole_is = refl;
      amount_is = refl;
    }

module _ {w x : Float} (p : Scales w x) where
  -- it may be cut, and the cut number, a float, is the amount
  pub may_cut : T (lt (fin true 1 (pos 0)) x) × T (lt x (fin false 1 (pos 64)))
  may_cut = (
    above p.sign p.over p.under p.positive p.small p.negative x p.value,
    below p.sign p.over p.under p.positive p.small p.negative x p.value,
  )

  pub cut_amount : to_unsigned 64 x ≡ amount_of w
  cut_amount = cut p.sign p.over p.under p.positive p.small p.negative x p.value ∙ p.amount_is

  pub cut_float : T (in_float binary32 (pos (to_unsigned 64 x)))
  cut_float = rw (cut_amount, ← p.amount_is) (cut_is_float p.sign p.over p.under p.positive p.small p.negative)

  -- whether it is the product tells whether the weight is whole
  pub cut_tells : eq (of_int binary32 (pos (to_unsigned 64 x))) x ≡ whole_grains w
  cut_tells = rw (cut_amount, ← p.amount_is) (cut_test p.sign p.over p.under p.positive p.small p.negative x p.value ∙ p.whole_is)

  -- and if it is, and not 0, the product may be cast
  pub cast_loses_nothing : whole_grains w ≡ true → eq w zero-f ≡ false → T (in_unsigned binary32 64 x)
  cast_loses_nothing h d =
      let s : p.sign ≡ false = is_false p.sign (λ t. clash (p.zero_is t) d) in
      may_cast p.sign p.over p.under p.positive p.small p.negative x (rw s at p.value) (eqb-true (p.over % p.under) 0 (p.whole_is ∙ h))

-- ---- the weight of an amount

pub amount_is_float : (k : ℕ) → k ≤ 2 ^ 24 → T (in_float binary32 (pos k))
unfolding in_float
amount_is_float k h = le→leb k (2 ^ 24) h

-- the quotient of its float by 2^24 is the float of the quotient
pub quotient : (k : ℕ) → k ≤ 2 ^ 24 → div binary32 (of_int binary32 (pos k)) grains_f ≡ weight_of k
unfolding of_int div weight_of
quotient k h = go (round binary32 false k 1) (round_whole binary32 false k h)
  where
    go : (y : Float) → HasValue y false k 1 → div binary32 y grains_f ≡ round binary32 false k (2 ^ 24)
    go nan u = absurd u
    go (inf s) u = absurd u
    go (fin true n d) u = absurd (true≢false u.0)
    go (fin false n d) u =
        round_same binary32 false (n * up d * 1) (2 ^ 24 * down d) k (2 ^ 24) (mul-pos (lit< tt) (down_pos d)) (lit< tt) (omega (arith, u.1))
