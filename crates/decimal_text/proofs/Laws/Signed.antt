-- A signed number of 32 bits: how long its text is, and the text by its sign.
use mathlib.Core.Path.{◌≡◌, refl, ap}
use mathlib.Core.Bool.{true}
use mathlib.Core.List.{List, [], ◌∷◌}
use Prim.Native.Nat.{ℕ, suc, ◌+◌, ◌≤◌, ◌<◌, ◌^◌}
use native.Mathlib.Omega.{arith}
use lib.IntN.{ℤ, pos, negsuc, nat_abs}
use lib.ListN.{length}
use lib.Signed.{lt_z, nat_abs-le}
use borrow.Author.Tests.{ltb-true}
use mir.Syntax.{w32}
use mir.Val.{to_z, of_z, SFits}
use mir.ValLaws.{to_z-of_z}
use Rattle.decimal_text.specs.Decimal.{decimal, signed_decimal}
use Rattle.decimal_text.specs.Steps.Wrote.{Wrote}
use Rattle.decimal_text.proofs.Laws.Decimal.{length-decimal}
use Rattle.decimal_text.proofs.Laws.Wrote.{wrote_then}

minus_text : (z : ℤ) → lt_z z (pos 0) ≡ true → signed_decimal z ≡ 45 ∷ decimal (nat_abs z)
minus_text (pos n) h = absurd (omega (arith, ltb-true n 0 h))
minus_text (negsuc n) h = refl

-- a magnitude below 10 ^ (m + 1) has at most m + 1 digits, and its sign is one byte
pub length-signed : (m : ℕ) (z : ℤ) → nat_abs z < 10 ^ suc m → length (signed_decimal z) ≤ suc (suc m)
length-signed m (pos n) h = omega (arith, length-decimal m n h)
length-signed m (negsuc n) h = omega (arith, length-decimal m (suc n) h)

module _ (z : ℤ) (f : SFits w32 z) where
  back : to_z w32 (of_z w32 z) ≡ z
  back = to_z-of_z w32 z f

  -- 2 ^ 31 has ten digits
  pub signed_most : length (signed_decimal z) ≤ 11
  signed_most = length-signed 9 z (omega (arith, nat_abs-le z f.sfits))

  -- a number that was handed on
  pub same_text : signed_decimal (to_z w32 (of_z w32 z)) ≡ signed_decimal z
  same_text = ap signed_decimal back

  -- the sign, and the digits of the magnitude v behind it
  pub minus_wrote : {from v at r : ℕ} {l m o : List ℕ} → lt_z (to_z w32 (of_z w32 z)) (pos 0) ≡ true → v ≡ nat_abs (to_z w32 (of_z w32 z))
      → from + length (signed_decimal z) ≤ length l → Wrote from (45 ∷ []) l m at → Wrote at (decimal v) m o r → Wrote from (signed_decimal z) l o r
  minus_wrote h e room w d =
      let t = minus_text z (rw back at h) in
      rw (t, ← ap nat_abs back, ← e) (wrote_then (omega (arith, w.next_is, ap length t)) w d)
