-- The integers as differences of naturals: `sub_ℕ a b` is a - b, and each operation is one law on such differences.
use mathlib.Core.Path.{◌≡◌, refl, sym, ap, ◌∙◌}
use mathlib.Core.Bool.{Bool, true, false}
use Prim.Native.Nat.{ℕ, zero, suc, ◌+◌, ◌*◌, ◌-◌, ◌<◌}
use native.Mathlib.Omega.{arith}
use lib.IntN.{ℤ, pos, negsuc, neg_ℤ, nat_abs, sub_ℕ, ◌+ℤ◌, ◌-ℤ◌, ◌*ℤ◌}
use lib.Signed.{mag}
use borrow.Author.Tests.{lt-ltb, le-ltb}
use Rattle.arithmetic.specs.Sum.{pick, sum}
use Rattle.arithmetic.specs.Integer.{pick_ℤ, sum_ℤ}
use Rattle.arithmetic.specs.Steps.Product.{gap}
use Rattle.arithmetic.proofs.Laws.Bools.{case<}
use Rattle.arithmetic.proofs.Laws.Sum.{sum-add, sum-mul}

-- the positive part: z where it is positive, else 0
abbrev pub plus : ℤ → ℕ
plus (pos n) = n
plus (negsuc n) = 0

-- the negative part: -z where that is positive, else 0
abbrev pub minus : ℤ → ℕ
minus (pos n) = 0
minus (negsuc n) = suc n

-- ---- a difference and its parts

-- the parts of a - b differ as a and b do
parts : (a b : ℕ) → plus (sub_ℕ a b) + b ≡ a + minus (sub_ℕ a b)
parts a b = case< a b (λ l. rw (lt-ltb a b l) (omega arith)) (λ l. rw (le-ltb a b l) (omega arith))

-- and an integer whose parts do is a - b
is_sub : (z : ℤ) (a b : ℕ) → plus z + b ≡ a + minus z → z ≡ sub_ℕ a b
is_sub (pos n) a b h = let e : n ≡ a - b = omega arith in rw (le-ltb a b (omega arith)) (ap pos e)
is_sub (negsuc n) a b h = let e : n ≡ b - suc a = omega arith in rw (lt-ltb a b (omega arith)) (ap negsuc e)

pub as_sub : (z : ℤ) → z ≡ sub_ℕ (plus z) (minus z)
as_sub z = is_sub z (plus z) (minus z) refl

pub sub_cong : (a b c d : ℕ) → a + d ≡ c + b → sub_ℕ a b ≡ sub_ℕ c d
sub_cong a b c d h = is_sub (sub_ℕ a b) c d (omega (arith, parts a b))

pub sub_inj : (a b c d : ℕ) → sub_ℕ a b ≡ sub_ℕ c d → a + d ≡ c + b
sub_inj a b c d e = omega (arith, parts a b, parts c d, ap plus e, ap minus e)

pub sub-zero : (a : ℕ) → sub_ℕ a 0 ≡ pos a
sub-zero a = sym (is_sub (pos a) a 0 refl)

pub sub_same : {a b : ℕ} → a ≡ b → sub_ℕ a b ≡ pos 0
sub_same {a} {b} e = sym (is_sub (pos 0) a b (omega arith))

-- ---- sum, negation, product
add_parts : (x y : ℤ) → plus (x +ℤ y) + (minus x + minus y) ≡ (plus x + plus y) + minus (x +ℤ y)
add_parts (pos a) (pos b) = omega arith
add_parts (pos a) (negsuc b) = omega (arith, parts a (suc b))
add_parts (negsuc a) (pos b) = omega (arith, parts b (suc a))
add_parts (negsuc a) (negsuc b) = omega arith

pub sub-add : (a b c d : ℕ) → sub_ℕ a b +ℤ sub_ℕ c d ≡ sub_ℕ (a + c) (b + d)
sub-add a b c d = is_sub (sub_ℕ a b +ℤ sub_ℕ c d) (a + c) (b + d) (omega (arith, parts a b, parts c d, add_parts (sub_ℕ a b) (sub_ℕ c d)))

neg_parts : (z : ℤ) → plus (neg_ℤ z) + plus z ≡ minus z + minus (neg_ℤ z)
neg_parts (pos zero) = refl
neg_parts (pos (suc n)) = omega arith
neg_parts (negsuc n) = omega arith

pub sub-neg : (a b : ℕ) → neg_ℤ (sub_ℕ a b) ≡ sub_ℕ b a
sub-neg a b = is_sub (neg_ℤ (sub_ℕ a b)) b a (omega (arith, parts a b, neg_parts (sub_ℕ a b)))

pub zero-sub : (a : ℕ) → sub_ℕ 0 a ≡ neg_ℤ (pos a)
zero-sub a = sym (is_sub (neg_ℤ (pos a)) 0 a (omega (arith, neg_parts (pos a))))

pub sub-sub : (a b c d : ℕ) → sub_ℕ a b -ℤ sub_ℕ c d ≡ sub_ℕ (a + d) (b + c)
sub-sub a b c d = ap (λ (z : ℤ). sub_ℕ a b +ℤ z) (sub-neg c d) ∙ sub-add a b d c

pub pos-sub : (a b : ℕ) → pos a -ℤ pos b ≡ sub_ℕ a b
pos-sub a zero = is_sub (pos (a + 0)) a 0 (omega arith)
pos-sub a (suc b) = refl

mul_parts : (x y : ℤ) → plus (x *ℤ y) + (plus x * minus y + minus x * plus y) ≡ (plus x * plus y + minus x * minus y) + minus (x *ℤ y)
mul_parts (pos a) (pos b) = omega arith
mul_parts (pos a) (negsuc b) = omega (arith, neg_parts (pos (a * suc b)))
mul_parts (negsuc a) (pos b) = omega (arith, neg_parts (pos (suc a * b)))
mul_parts (negsuc a) (negsuc b) = omega arith

-- k times an equation, less l times it
cross : {u v : ℕ} (k l : ℕ) → u ≡ v → k * u + l * v ≡ k * v + l * u
cross k l e = rw e

pub sub-mul : (a b c d : ℕ) → sub_ℕ a b *ℤ sub_ℕ c d ≡ sub_ℕ (a * c + b * d) (a * d + b * c)
sub-mul a b c d =
    let x = sub_ℕ a b in
    let y = sub_ℕ c d in
    is_sub (x *ℤ y) (a * c + b * d) (a * d + b * c)
    (omega (arith, mul_parts x y, cross (plus y) (minus y) (parts a b), cross a b (parts c d)))

-- ---- size
pub abs-sub : (a b : ℕ) → nat_abs (sub_ℕ a b) ≡ gap a b
abs-sub a b = case< a b (λ l. rw (lt-ltb a b l) (omega arith)) (λ l. rw (le-ltb a b l) (omega arith))

pub mag-sub-lt : (a b H : ℕ) → a < H → b < H → mag (sub_ℕ a b) < H
mag-sub-lt a b H h k = case< a b (λ l. rw (lt-ltb a b l) (omega arith)) (λ l. rw (le-ltb a b l) (omega arith))

-- ---- picks and sums
pub pick_ℤ-sub : (t : Bool) (a b : ℕ) → pick_ℤ t (sub_ℕ a b) ≡ sub_ℕ (pick t a) (pick t b)
pick_ℤ-sub true a b = refl
pick_ℤ-sub false a b = refl

pub sum_ℤ_ext : (n : ℕ) (f g : ℕ → ℤ) → ((i : ℕ) → i < n → f i ≡ g i) → sum_ℤ n f ≡ sum_ℤ n g
unfolding sum_ℤ
sum_ℤ_ext zero f g h = refl
sum_ℤ_ext (suc n) f g h = rw (sum_ℤ_ext n f g (λ i l. h i (omega arith)), h n (omega arith))

-- a sum of differences is the difference of the sums
pub sum_ℤ-sub : (n : ℕ) (f g : ℕ → ℕ) → sum_ℤ n (λ i. sub_ℕ (f i) (g i)) ≡ sub_ℕ (sum n f) (sum n g)
unfolding sum_ℤ sum
sum_ℤ-sub zero f g = refl
sum_ℤ-sub (suc n) f g = rw (sum_ℤ-sub n f g) (sub-add (sum n f) (sum n g) (f n) (g n))

-- an offset K of a potential counts for nothing against a difference of equal totals
pub offset_cancels : (n K : ℕ) (U m v : ℕ → ℕ) → sum n m ≡ sum n v
    → sum_ℤ n (λ y. sub_ℕ (U y) K *ℤ sub_ℕ (m y) (v y)) ≡ sub_ℕ (sum n (λ y. U y * m y)) (sum n (λ y. U y * v y))
offset_cancels n K U m v e =
    sum_ℤ_ext n _ _ (λ y _. sub-mul (U y) K (m y) (v y))
    ∙ sum_ℤ-sub n (λ y. U y * m y + K * v y) (λ y. U y * v y + K * m y)
    ∙ sub_cong _ _ _ _ cancel
  where
    cancel : sum n (λ y. U y * m y + K * v y) + sum n (λ y. U y * v y) ≡ sum n (λ y. U y * m y) + sum n (λ y. U y * v y + K * m y)
    cancel =
        omega (
          arith,
          sum-add n (λ y. U y * m y) (λ y. K * v y),
          sum-add n (λ y. U y * v y) (λ y. K * m y),
          sum-mul n K m,
          sum-mul n K v,
          ap (λ (t : ℕ). K * t) e,
        )
