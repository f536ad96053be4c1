-- Document 01, "What is refused": numbered checks, and the number that a call returns.
use Prim.Native.Nat.{ℕ, ◌<◌}
use mathlib.Core.Path.{◌≡◌, refl, sym, ◌∙◌}
use mathlib.Core.Bool.{Bool, true, false, cond, ◌&&◌, ◌||◌, not, and-false}
use mathlib.Core.List.{List, [], ◌∷◌, ◌++◌}
use native.Mathlib.Omega.{arith}
use lib.Dec.{eqb, ltb}
use borrow.Author.Tests.{ltb-true, not-true, not-false, eq-eqb, ne_eqb, le-ltb, lt-ltb, le-leb, lt-leb}
use Rattle.arithmetic.specs.Refusal.{Check, check, refusal}
use Rattle.arithmetic.proofs.Laws.Bools.{case, and_l, and_r, and-true}

-- the test of check k in a list
unfoldable pub test_of : List Check → ℕ → Bool
test_of [] k = true
test_of (c ∷ cs) k = cond (eqb c.number k) c.test (test_of cs k)

-- ---- code that runs down a list

-- the next check fails
pub fails : (k : ℕ) (b : Bool) (cs : List Check) → b ≡ false → k ≡ refusal (check k b ∷ cs)
unfolding refusal
fails k b cs e = rw e

-- the next check passes
pub passes : (r k : ℕ) (b : Bool) (cs : List Check) → b ≡ true → r ≡ refusal cs → r ≡ refusal (check k b ∷ cs)
unfolding refusal
passes r k b cs e h = rw e h

-- no check is left
pub none_left : 0 ≡ refusal []
unfolding refusal
none_left = refl

-- ---- code that runs down one list and then another

-- the first list refuses
pub stops : (r : ℕ) (cs ds : List Check) → r ≡ refusal cs → (r ≡ 0 → ⊥) → r ≡ refusal (cs ++ ds)
unfolding refusal
stops r [] ds e d = absurd (d e)
stops r (c ∷ cs) ds e d =
    case c.test (λ t. rw t (stops r cs ds (rw t at e) d)) (λ f. rw f (rw f at e))

-- every check of a list has a number
unfoldable pub numbered : List Check → Bool
numbered [] = true
numbered (c ∷ cs) = ltb 0 c.number && numbered cs

-- a list that refuses nothing is run down to its end
pub past_all : (cs ds : List Check) → numbered cs ≡ true → refusal cs ≡ 0 → refusal (cs ++ ds) ≡ refusal ds
unfolding refusal numbered
past_all [] ds n h = refl
past_all (c ∷ cs) ds n h =
    case c.test
    (λ t. rw t (past_all cs ds (and_r (ltb 0 c.number) _ n) (rw t at h)))
    (λ f. absurd (omega (arith, ltb-true 0 c.number (and_l (ltb 0 c.number) _ n), rw f at h)))

-- the first list refuses nothing
pub goes_on : (r s : ℕ) (cs ds : List Check) → numbered cs ≡ true → r ≡ refusal cs → r ≡ 0 → s ≡ refusal ds → s ≡ refusal (cs ++ ds)
goes_on r s cs ds h e z g = g ∙ sym (past_all cs ds h (sym e ∙ z))

-- what comes after a list counts by its number alone
pub same_after : (cs ds es : List Check) → refusal ds ≡ refusal es → refusal (cs ++ ds) ≡ refusal (cs ++ es)
unfolding refusal
same_after [] ds es h = h
same_after (c ∷ cs) ds es h = rw (same_after cs ds es h)

-- ---- what code says of a test

-- a test that answers b, asked for its failure
pub test_failed : (r b : Bool) → r ≡ b → not r ≡ true → b ≡ false
test_failed r b e h = sym e ∙ not-true r h

pub test_held : (r b : Bool) → r ≡ b → not r ≡ false → b ≡ true
test_held r b e h = sym e ∙ not-false r h

-- a test of two parts
pub left_failed : (a b : Bool) → a ≡ false → a && b ≡ false
left_failed a b e = rw e

pub right_failed : (a b : Bool) → b ≡ false → a && b ≡ false
right_failed a b e = rw (e, and-false)

-- the steps of any code that returns the number of a list
pub ruleset refusals = (fails, passes, none_left, stops, goes_on, test_failed, test_held, left_failed, right_failed, and-true)

-- ---- code that answers a test of several parts, one after another

-- a part fails
pub part_fails : (a b : Bool) → a ≡ false → false ≡ a && b
part_fails a b e = rw e

-- a part holds, and the rest answers
pub part_holds : (r a b : Bool) → a ≡ true → r ≡ b → r ≡ a && b
part_holds r a b e h = rw e h

-- of two parts one is enough
pub first_holds : (a b : Bool) → a ≡ true → true ≡ a || b
first_holds a b e = rw e

pub second_counts : (r a b : Bool) → a ≡ false → r ≡ b → r ≡ a || b
second_counts r a b e h = rw e h

-- equal numbers are in no strict order
pub eq-ltb : (x y : ℕ) → x ≡ y → ltb x y ≡ false
eq-ltb x y e = le-ltb x y (omega arith)

-- a number that is 0, and one that is not
pub zero-ltb : (x : ℕ) → x ≡ 0 → ltb 0 x ≡ false
zero-ltb x e = le-ltb 0 x (omega arith)

pub some_ltb : (x : ℕ) → (x ≡ 0 → ⊥) → ltb 0 x ≡ true
some_ltb x d = lt-ltb 0 x (omega arith)

pub ruleset parts =
    (part_fails, part_holds, first_holds, second_counts, left_failed, eq-eqb, ne_eqb, eq-ltb, le-ltb, lt-ltb, le-leb, lt-leb, zero-ltb, some_ltb)

-- ---- what passed

-- nothing is refused: every test holds
pub every_holds : (cs : List Check) → numbered cs ≡ true → refusal cs ≡ 0 → (k : ℕ) → test_of cs k ≡ true
unfolding refusal test_of numbered
every_holds [] n h k = refl
every_holds (c ∷ cs) n h k =
    case c.test
    (λ t. case (eqb c.number k) (λ e. rw (e, t)) (λ e. rw e (every_holds cs (and_r (ltb 0 c.number) _ n) (rw t at h) k)))
    (λ f. absurd (omega (arith, ltb-true 0 c.number (and_l (ltb 0 c.number) _ n), rw f at h)))

-- and of two lists, one after the other, neither refuses anything
pub both_pass : (cs ds : List Check) → numbered cs ≡ true → refusal (cs ++ ds) ≡ 0 → (refusal cs ≡ 0) × (refusal ds ≡ 0)
unfolding refusal numbered
both_pass [] ds n h = (refl, h)
both_pass (c ∷ cs) ds n h =
    case c.test
    (λ t. rw t (both_pass cs ds (and_r (ltb 0 c.number) _ n) (rw t at h)))
    (λ f. absurd (omega (arith, ltb-true 0 c.number (and_l (ltb 0 c.number) _ n), rw f at h)))

-- ---- how large a number is

-- every check of a list has a number below k
unfoldable pub numbers_below : ℕ → List Check → Bool
numbers_below k [] = true
numbers_below k (c ∷ cs) = ltb c.number k && numbers_below k cs

-- so has what the list refuses by, if what comes after it has
pub below-after : (k : ℕ) (cs ds : List Check) → numbers_below k cs ≡ true → refusal ds < k → refusal (cs ++ ds) < k
unfolding refusal numbers_below
below-after k [] ds n h = h
below-after k (c ∷ cs) ds n h =
    case c.test
    (λ t. rw t (below-after k cs ds (and_r (ltb c.number k) _ n) h))
    (λ f. rw f (ltb-true c.number k (and_l (ltb c.number k) _ n)))
