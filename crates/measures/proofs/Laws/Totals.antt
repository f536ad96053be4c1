-- What checks 6 and 7 say of the totals, and what the totals say of the checks.
use Prim.Native.Nat.{ℕ, ◌≤◌, ◌<◌, ◌^◌}
use mathlib.Core.Path.{◌≡◌}
use mathlib.Core.Bool.{true, false}
use native.Mathlib.Omega.{arith}
use borrow.Author.Tests.{leb-true, le-leb, lt-leb, eqb-true, eq-eqb, ne_eqb}
use Rattle.arithmetic.specs.Sum.{sum}
use Rattle.measures.specs.Checks.{total_ok, totals_equal}

pub total_in : (n : ℕ) (amounts : ℕ → ℕ) → total_ok n amounts ≡ true → sum n amounts ≤ 2 ^ 24
unfolding total_ok
total_in n amounts h = leb-true _ _ h

pub equal_in : (n : ℕ) (mu nu : ℕ → ℕ) → totals_equal n mu nu ≡ true → sum n mu ≡ sum n nu
unfolding totals_equal
equal_in n mu nu h = eqb-true _ _ h

pub total_above : (n : ℕ) (amounts : ℕ → ℕ) → 2 ^ 24 < sum n amounts → total_ok n amounts ≡ false
unfolding total_ok
total_above n amounts h = lt-leb (sum n amounts) (2 ^ 24) h

pub total_within : (n t : ℕ) (amounts : ℕ → ℕ) → t ≡ sum n amounts → t ≤ 2 ^ 24 → total_ok n amounts ≡ true
unfolding total_ok
total_within n t amounts e h = le-leb (sum n amounts) (2 ^ 24) (rw e at h)

-- s and t are the totals
module _ (n s t : ℕ) (mu nu : ℕ → ℕ) (before : s ≡ sum n mu) (after : t ≡ sum n nu) where
  pub totals_differ : (s ≡ t → ⊥) → totals_equal n mu nu ≡ false
  unfolding totals_equal
  totals_differ d = ne_eqb (sum n mu) (sum n nu) (omega arith)

  pub totals_agree : s ≡ t → totals_equal n mu nu ≡ true
  unfolding totals_equal
  totals_agree e = eq-eqb (sum n mu) (sum n nu) (omega arith)

pub ruleset totals = (total_above, total_within, totals_differ, totals_agree)
