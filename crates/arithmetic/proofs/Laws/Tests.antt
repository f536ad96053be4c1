-- Code that answers a test: it goes by the test's parts, and by numbers that it has read.
use mathlib.Core.Path.{◌≡◌}
use mathlib.Core.Bool.{Bool, true, false, ◌&&◌, ◌||◌}
use Prim.Native.Nat.{ℕ}
use lib.Dec.{eqb, leb}
use borrow.Author.Tests.{le-leb, lt-leb, eq-eqb, ne_eqb}
use Rattle.arithmetic.proofs.Laws.Refusal.{test_failed, test_held, left_failed}

pub and_held : (a b r : Bool) → a ≡ true → b ≡ r → a && b ≡ r
and_held a b r e h = rw e h

pub or_held : (a b : Bool) → a ≡ true → a || b ≡ true
or_held a b e = rw e

pub or_failed : (a b r : Bool) → a ≡ false → b ≡ r → a || b ≡ r
or_failed a b r e h = rw e h

-- x was read for v, and y for w: a test of these is the test of those
module _ (x v : ℕ) (ex : x ≡ v) (r : Bool) where
  pub as_least : (k : ℕ) → leb k x ≡ r → leb k v ≡ r
  as_least k h = rw ex at h

  pub as_most : (k : ℕ) → leb x k ≡ r → leb v k ≡ r
  as_most k h = rw ex at h

  pub as_equal : (k : ℕ) → eqb x k ≡ r → eqb v k ≡ r
  as_equal k h = rw ex at h

  pub as_ordered : (y w : ℕ) → y ≡ w → leb x y ≡ r → leb v w ≡ r
  as_ordered y w ey h = rw (ex, ey) at h

pub ruleset tests = (and_held, left_failed, or_held, or_failed, test_failed, test_held, le-leb, lt-leb, eq-eqb, ne_eqb, as_least, as_most, as_equal, as_ordered)
