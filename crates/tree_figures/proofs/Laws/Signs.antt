-- The sign of an imbalance, as code compares it.
use Prim.Native.Nat.{ℕ, zero, suc}
use mathlib.Core.Bool.{Bool, true, false}
use mathlib.Core.Path.{◌≡◌, refl, sym, ap, ◌∙◌}
use native.Mathlib.Omega.{arith}
use lib.IntN.{ℤ, pos, negsuc}
use lib.Signed.{lt_z}
use borrow.Author.Tests.{lt-ltb, le-ltb}
use mir.Syntax.{w32}
use mir.Val.{to_z, of_z, SFits}
use mir.ValLaws.{to_z-of_z}
use Rattle.arithmetic.specs.Sum.{pick}
use Rattle.arithmetic.proofs.Laws.Sum.{pick-zero}
use Rattle.tree_figures.specs.Steps.Tables.{rises, falls}

positive : (z : ℤ) → lt_z (pos 0) z ≡ rises z
positive (pos zero) = le-ltb 0 0 (omega arith)
positive (pos (suc k)) = lt-ltb 0 (suc k) (omega arith)
positive (negsuc k) = refl

negative : (z : ℤ) → lt_z z (pos 0) ≡ falls z
negative (pos k) = le-ltb k 0 (omega arith)
negative (negsuc k) = refl

module _ (z : ℤ) (fits : SFits w32 z) where
  pub rises_is : lt_z (pos 0) (to_z w32 (of_z w32 z)) ≡ rises z
  rises_is = ap (lt_z (pos 0)) (to_z-of_z w32 z fits) ∙ positive z

  pub falls_is : lt_z (to_z w32 (of_z w32 z)) (pos 0) ≡ falls z
  falls_is = ap (λ (y : ℤ). lt_z y (pos 0)) (to_z-of_z w32 z fits) ∙ negative z

-- a length under two tests, in either order
pick_swap : (s t : Bool) (l : ℕ) → pick s (pick t l) ≡ pick t (pick s l)
pick_swap true t l = refl
pick_swap false t l = sym (pick-zero t)

pub sloped : {t sign : Bool} (inner : Bool) (l : ℕ) {u v : ℕ} → t ≡ sign → u ≡ pick inner l → v ≡ pick t u → v ≡ pick inner (pick sign l)
sloped {sign = sign} inner l e f g = g ∙ rw (e, f) (pick_swap sign inner l)
