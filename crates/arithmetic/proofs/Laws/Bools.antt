-- Tests: case analysis that keeps the equation, and tests over all numbers below a bound.
use mathlib.Core.Path.{◌≡◌, refl, sym, ◌∙◌}
use mathlib.Core.Bool.{Bool, true, false, cond, ◌&&◌, ◌||◌, true≢false}
use Prim.Native.Nat.{ℕ, zero, suc, ◌+◌, ◌≤◌, ◌<◌}
use native.Mathlib.Numerals.{add-one}
use native.Mathlib.Omega.{arith}
use lib.Dec.{eqb, ltb, leb}
use borrow.Author.Tests.{eqb-true, eqb-false, eq-eqb, ne_eqb, ltb-true, ltb-false, leb-true, leb-false}
use Rattle.arithmetic.specs.Bools.{all, any}

-- go by a test, and know in each case what it gave
pub case : {A : Type 0} (b : Bool) → (b ≡ true → A) → (b ≡ false → A) → A
case true f g = f refl
case false f g = g refl

-- the same at an equality, a strict and a weak order of numbers
pub case≡ : {A : Type 0} (x y : ℕ) → (x ≡ y → A) → ((x ≡ y → ⊥) → A) → A
case≡ x y f g = case (eqb x y) (λ e. f (eqb-true x y e)) (λ e. g (eqb-false x y e))

pub case< : {A : Type 0} (x y : ℕ) → (x < y → A) → (y ≤ x → A) → A
case< x y f g = case (ltb x y) (λ e. f (ltb-true x y e)) (λ e. g (ltb-false x y e))

pub case≤ : {A : Type 0} (x y : ℕ) → (x ≤ y → A) → (y < x → A) → A
case≤ x y f g = case (leb x y) (λ e. f (leb-true x y e)) (λ e. g (leb-false x y e))

-- a test cannot give both
pub clash : {A : Type 0} {b : Bool} → b ≡ true → b ≡ false → A
clash e f = absurd (true≢false (sym e ∙ f))

pub is_false : (b : Bool) → (b ≡ true → ⊥) → b ≡ false
is_false true h = absurd (h refl)
is_false false h = refl

pub is_true : (b : Bool) → (b ≡ false → ⊥) → b ≡ true
is_true true h = refl
is_true false h = absurd (h refl)

-- what a test picks
pub cond-true : {A : Type 0} (b : Bool) (x y : A) → b ≡ true → x ≡ cond b x y
cond-true b x y e = rw e

pub cond-false : {A : Type 0} (b : Bool) (x y : A) → b ≡ false → y ≡ cond b x y
cond-false b x y e = rw e

-- two tests are equal where each implies the other
pub both : (a b : Bool) → (a ≡ true → b ≡ true) → (b ≡ true → a ≡ true) → a ≡ b
both true b f g = sym (f refl)
both false true f g = g refl
both false false f g = refl

pub and_l : (a b : Bool) → a && b ≡ true → a ≡ true
and_l a b h = case a (λ e. e) (λ e. cc)

pub and_r : (a b : Bool) → a && b ≡ true → b ≡ true
and_r a b h = case a (λ e. cc) (λ e. cc)

pub and-true : (a b : Bool) → a ≡ true → b ≡ true → a && b ≡ true
and-true a b e f = cc

pub or_elim : {A : Type 0} (a b : Bool) → a || b ≡ true → (a ≡ true → A) → (b ≡ true → A) → A
or_elim true b h f g = f refl
or_elim false b h f g = g h

pub or_right : (a b : Bool) → a || b ≡ true → a ≡ false → b ≡ true
or_right true b h e = clash refl e
or_right false b h e = h

pub or_same : (a : Bool) → a || a ≡ a
or_same true = refl
or_same false = refl

pub or-true_l : (a b : Bool) → a ≡ true → a || b ≡ true
or-true_l a b h = cc

pub or_true_r : (a b : Bool) → b ≡ true → a || b ≡ true
or_true_r true b h = refl
or_true_r false b h = h

pub eqb_self : (x : ℕ) → eqb x x ≡ true
eqb_self x = eq-eqb x x refl

pub eqb_sym : (x y : ℕ) → eqb x y ≡ eqb y x
eqb_sym x y = case≡ x y (λ e. cc) (λ d. ne_eqb x y d ∙ sym (ne_eqb y x (λ e. d (sym e))))

pub all_none : (p : ℕ → Bool) → all 0 p ≡ true
unfolding all
all_none p = refl

-- one more, as code counts: m + 1
pub all-step : (m : ℕ) (p : ℕ → Bool) → all (m + 1) p ≡ all m p && p m
unfolding all
all-step m p = rw add-one

pub all_more : (m : ℕ) (p : ℕ → Bool) → all m p ≡ true → p m ≡ true → all (m + 1) p ≡ true
all_more m p h g = rw (all-step m p, h, g)

pub all-at : (m : ℕ) (p : ℕ → Bool) → all m p ≡ true → (i : ℕ) → i < m → p i ≡ true
unfolding all
all-at zero p h i l = absurd (omega arith)
all-at (suc m) p h i l =
    case≡ i m (λ e. rw e (and_r (all m p) (p m) h)) (λ d. all-at m p (and_l (all m p) (p m) h) i (omega arith))

pub all_intro : (m : ℕ) (p : ℕ → Bool) → ((i : ℕ) → i < m → p i ≡ true) → all m p ≡ true
unfolding all
all_intro zero p h = refl
all_intro (suc m) p h = and-true (all m p) (p m) (all_intro m p (λ i l. h i (omega arith))) (h m (omega arith))

pub all_ext : (m : ℕ) (p q : ℕ → Bool) → ((i : ℕ) → i < m → p i ≡ q i) → all m p ≡ all m q
unfolding all
all_ext zero p q h = refl
all_ext (suc m) p q h = rw (all_ext m p q (λ i l. h i (omega arith)), h m (omega arith))

-- one that fails makes the whole fail
pub all_fails : (m : ℕ) (p : ℕ → Bool) (i : ℕ) → i < m → p i ≡ false → all m p ≡ false
all_fails m p i l f = is_false _ (λ h. clash (all-at m p h i l) f)

-- a loop over all that met no failure
pub all_end : (i m : ℕ) (p : ℕ → Bool) → i ≤ m → m ≤ i → all i p ≡ true → true ≡ all m p
all_end i m p g h e = let q : i ≡ m = omega arith in sym (rw q at e)

-- a number at which it fails
pub all_missed : (m : ℕ) (p : ℕ → Bool) → all m p ≡ false → (i : ℕ) × ((i < m) × (p i ≡ false))
unfolding all
all_missed zero p h = clash refl h
all_missed (suc m) p h =
    case (all m p)
    (λ e. (m, (omega arith, rw e at h)))
    (λ e. let z = all_missed m p e in (z.0, (omega (arith, z.1.0), z.1.1)))

pub any_none : (p : ℕ → Bool) → any 0 p ≡ false
unfolding any
any_none p = refl

pub any_step : (m : ℕ) (p : ℕ → Bool) → any (m + 1) p ≡ any m p || p m
unfolding any
any_step m p = rw add-one

pub any_intro : (m : ℕ) (p : ℕ → Bool) (i : ℕ) → i < m → p i ≡ true → any m p ≡ true
unfolding any
any_intro zero p i l h = absurd (omega arith)
any_intro (suc m) p i l h =
    case≡ i m (λ e. or_true_r (any m p) (p m) (rw e at h))
    (λ d. or-true_l (any m p) (p m) (any_intro m p i (omega arith) h))

-- the number at which it holds
pub any_at : (m : ℕ) (p : ℕ → Bool) → any m p ≡ true → (i : ℕ) × ((i < m) × (p i ≡ true))
unfolding any
any_at zero p h = clash h refl
any_at (suc m) p h =
    or_elim (any m p) (p m) h
    (λ e. let z = any_at m p e in (z.0, (omega (arith, z.1.0), z.1.1)))
    (λ e. (m, (omega arith, e)))
