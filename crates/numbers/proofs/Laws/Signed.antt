-- The difference of two naturals, at a signed width.
use mathlib.Core.Path.{◌≡◌, ◌∙◌}
use Prim.Native.Nat.{ℕ, ◌<◌, ◌^◌}
use lib.IntN.{sub_ℕ, ◌-ℤ◌}
use mir.Syntax.{Width}
use mir.Val.{to_z, of_z, SFits, hbits}
use mir.ValLaws.{to_z_pos, to_z-of_z}
use Rattle.arithmetic.proofs.Laws.Integer.{pos-sub, mag-sub-lt}

module _ (w : Width) (a b : ℕ) (ha : a < 2 ^ hbits w) (hb : b < 2 ^ hbits w) where
  sub_plain : to_z w a -ℤ to_z w b ≡ sub_ℕ a b
  sub_plain = rw (to_z_pos w a ha, to_z_pos w b hb) (pos-sub a b)

  pub sub_fits : SFits w (to_z w a -ℤ to_z w b)
  sub_fits = rw sub_plain (record { sfits = mag-sub-lt a b (2 ^ hbits w) ha hb })

  pub sub_back : to_z w (of_z w (to_z w a -ℤ to_z w b)) ≡ sub_ℕ a b
  sub_back = to_z-of_z w _ sub_fits ∙ sub_plain
