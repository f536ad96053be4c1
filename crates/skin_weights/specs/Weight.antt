-- Document 02, W-205: a weight, a 32-bit float from 0 to 1, and its amount in grains. The float `fin s m e` is m × 2 ^ e, negative where s is true, and 2 ^ e is up e / down e.
use Rattle.std.specs.Prelude.{ℕ, zero, suc, ◌*◌, ◌/◌, ◌%◌, ◌^◌, Bool, false, not, ◌&&◌, ◌||◌, ◌==◌, nat_le, Float}
use Rattle.std.specs.Float.{nan, inf, fin, binary32}
use Rattle.std.specs.Float.Ieee.{up, down, round}

-- "floats from 0 to 1": not "below 0, above 1 or no number"; negative zero is not below 0
unfoldable pub in_unit_interval : Float → Bool
in_unit_interval nan = false
in_unit_interval (inf s) = false
in_unit_interval (fin s m e) = nat_le (m * up e) (down e) && (not s || m == 0)

-- "a whole number of grains"
unfoldable pub whole_grains : Float → Bool
whole_grains nan = false
whole_grains (inf s) = false
whole_grains (fin s m e) = m * up e * 2 ^ 24 % down e == 0

-- "the amount is the weight times 16,777,216, exact"
unfoldable pub amount_of : Float → ℕ
amount_of nan = 0
amount_of (inf s) = 0
amount_of (fin s m e) = m * up e * 2 ^ 24 / down e

-- "gives each amount from 0 to 16,777,216 its float": the 32-bit float nearest to k / 16,777,216
unfoldable pub weight_of : ℕ → Float
unfolding round
weight_of k = round binary32 false k (2 ^ 24)

-- "Negative zero is 0": what a weight comes back as, in and out again
unfoldable pub positive_zero : Float → Float
positive_zero nan = nan
positive_zero (inf s) = inf s
positive_zero (fin s zero e) = fin false zero e
positive_zero (fin s (suc m) e) = fin s (suc m) e
