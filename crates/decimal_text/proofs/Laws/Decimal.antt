-- A number in base ten by its last digit; and how many digits it has.
use mathlib.Core.Path.{◌≡◌, sym, ap, ◌∙◌}
use mathlib.Core.List.{List, [], ◌∷◌, ◌++◌}
use Prim.Native.Nat.{ℕ, zero, suc, ◌+◌, ◌/◌, ◌%◌, ◌*◌, ◌^◌, ◌≤◌, ◌<◌}
use native.Mathlib.Nat.{pow-suc}
use native.Mathlib.Omega.{arith}
use lib.ListN.{length, length-append}
use borrow.Author.Tests.{lt-ltb, le-ltb}
use Rattle.arithmetic.proofs.Laws.Bools.{case<}
use Rattle.decimal_text.specs.Decimal.{digits, decimal}
use Rattle.decimal_text.specs.Steps.Wrote.{Wrote}
use Rattle.decimal_text.proofs.Laws.Wrote.{wrote_then}

digits_last : (k x : ℕ) → x < 10 → digits (suc k) x ≡ (48 + x) ∷ []
unfolding digits
digits_last k x h = rw (lt-ltb x 10 h)

digits_step : (k x : ℕ) → 10 ≤ x → digits (suc k) x ≡ digits k (x / 10) ++ ((48 + x % 10) ∷ [])
unfolding digits
digits_step k x h = rw (le-ltb x 10 h)

tenth : (m x : ℕ) → x < 10 ^ suc m → x / 10 < 10 ^ m
tenth m x h = omega (arith, pow-suc 10 m)

-- more digits than enough make no difference
digits_more : (k x : ℕ) → x < 10 ^ suc k → digits (suc k) x ≡ digits (suc (suc k)) x
digits_more zero x h = digits_last zero x h ∙ sym (digits_last 1 x h)
digits_more (suc k) x h =
    case< x 10
    (λ l. digits_last (suc k) x l ∙ sym (digits_last (suc (suc k)) x l))
    (λ l. rw (digits_step (suc k) x l, digits_step (suc (suc k)) x l, digits_more k (x / 10) (tenth (suc k) x h)))

decimal_last : (x : ℕ) → x < 10 → decimal x ≡ (48 + x) ∷ []
decimal_last x h = digits_last 19 x h

decimal_step : (x : ℕ) → x < 2 ^ 64 → 10 ≤ x → decimal x ≡ decimal (x / 10) ++ ((48 + x % 10) ∷ [])
decimal_step x h l =
    digits_step 19 x l ∙ ap (λ (s : List ℕ). s ++ ((48 + x % 10) ∷ [])) (digits_more 18 (x / 10) (omega arith))

length_digits : (k m x : ℕ) → x < 10 ^ suc m → length (digits k x) ≤ suc m
unfolding digits
length_digits zero m x h = omega arith
length_digits (suc k) zero x h = rw (lt-ltb x 10 h) (omega arith)
length_digits (suc k) (suc m) x h =
    case< x 10
    (λ l. rw (lt-ltb x 10 l) (omega arith))
    (λ l. rw (le-ltb x 10 l, length-append) (omega (arith, length_digits k m (x / 10) (tenth (suc m) x h))))

-- a number below 10 ^ (m + 1) has at most m + 1 digits
pub length-decimal : (m x : ℕ) → x < 10 ^ suc m → length (decimal x) ≤ suc m
length-decimal = length_digits 20

-- and one from 10 ^ m on has more than m
ten_pos : (m : ℕ) → 0 < 10 ^ m
ten_pos zero = omega arith
ten_pos (suc m) = omega (arith, pow-suc 10 m, ten_pos m)

digits_least : (k m x : ℕ) → m < k → 10 ^ m ≤ x → m < length (digits k x)
unfolding digits
digits_least zero m x g h = absurd (omega arith)
digits_least (suc k) zero x g h =
    case< x 10
    (λ l. rw (lt-ltb x 10 l) (omega arith))
    (λ l. rw (le-ltb x 10 l, length-append) (omega arith))
digits_least (suc k) (suc m) x g h =
    let p = pow-suc 10 m in
    let l : 10 ≤ x = omega (arith, ten_pos m) in
    rw (le-ltb x 10 l, length-append) (omega (arith, digits_least k m (x / 10) (omega arith) (omega arith)))

pub width_is : (m x : ℕ) → m < 20 → 10 ^ m ≤ x → x < 10 * 10 ^ m → m + 1 ≡ length (decimal x)
width_is m x g h l = omega (arith, digits_least 20 m x g h, length-decimal m x (omega (arith, pow-suc 10 m)))

-- the same, counted from the last digit on: `width` are counted, and those of x are left but for one that every number has
pub width_more : (width x whole : ℕ) → x < 2 ^ 64 → 9 < x → width + length (decimal x) ≡ whole → width + 1 + length (decimal (x / 10)) ≡ whole
width_more width x whole h g e =
    let f = ap length (decimal_step x h (omega arith)) in
    omega (arith, length-append (decimal (x / 10)) ((48 + x % 10) ∷ []))

pub width_end : (width x whole : ℕ) → x ≤ 9 → width + length (decimal x) ≡ whole + 1 → width ≡ whole
width_end width x whole h e = let f = ap length (decimal_last x (omega arith)) in omega arith

pub width_none : (x : ℕ) → x ≡ 0 → 1 ≡ length (decimal x)
width_none x e = rw e (sym (ap length (decimal_last 0 (omega arith))))

module _ (from x : ℕ) (l : List ℕ) where
  pub last_room : x < 10 → from + length (decimal x) ≤ length l → from < length l
  last_room h room = let e = ap length (decimal_last x h) in omega arith

  pub last_wrote : {r : ℕ} {o : List ℕ} → x < 10 → Wrote from ((48 + x) ∷ []) l o r → Wrote from (decimal x) l o r
  last_wrote h w = rw (decimal_last x h) w

  module _ (h : x < 2 ^ 64) (g : 10 ≤ x) (room : from + length (decimal x) ≤ length l) where
    pub others_room : from + length (decimal (x / 10)) < length l
    others_room =
        let e = ap length (decimal_step x h g) in
        omega (arith, length-append (decimal (x / 10)) ((48 + x % 10) ∷ []))

    pub others_wrote : {at r : ℕ} {m o : List ℕ} → Wrote from (decimal (x / 10)) l m at → Wrote at ((48 + x % 10) ∷ []) m o r
        → Wrote from (decimal x) l o r
    others_wrote v w = rw (decimal_step x h g) (wrote_then (omega (arith, others_room, v.next_is)) v w)
