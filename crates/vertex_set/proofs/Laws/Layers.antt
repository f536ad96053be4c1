-- The words of each depth.
use mathlib.Core.Path.{◌≡◌, refl, sym, ◌∙◌}
use mathlib.Core.List.{List}
use Prim.Native.Nat.{ℕ, ◌+◌, ◌*◌, ◌%◌, ◌^◌, ◌<◌}
use native.Mathlib.Omega.{arith}
use lib.Bits.{bit_or}
use lib.Dec.{eqb}
use lib.ListN.{length, set, replicate, length-set, length-replicate, get_or-replicate}
use lib.Seq.{get_or-set_same, get_or-set_other}
use borrow.Author.Tests.{ne_eqb}
use Rattle.arithmetic.specs.Table.{at}
use Rattle.arithmetic.specs.Mask.{mask}
use Rattle.arithmetic.proofs.Laws.Bools.{case≡, eqb_self}
use Rattle.arithmetic.proofs.Laws.Mask.{mask_lt, shl_one}
use Rattle.vertex_set.proofs.Laws.Words.{or_above, mask_step}

-- those of the vertices below y
pub record Gathered (depths : List ℕ) (y : ℕ) (layers : List ℕ) : Type 0 where
  pub size : length layers ≡ 65
  pub each : (d : ℕ) → d < 65 → at layers d ≡ mask y (λ x. eqb (at depths x) d)

pub gathered_none : (depths : List ℕ) → Gathered depths 0 (replicate 65 0)
unfolding mask
gathered_none depths = record { size = length-replicate {A = ℕ} 65 0; each = λ d l. get_or-replicate 65 d 0 0 l }

pub gathered_more : (depths layers : List ℕ) (y : ℕ) → Gathered depths y layers → y < 64 → at depths y < 65
    → Gathered depths (y + 1) (set layers (at depths y) (bit_or (at layers (at depths y)) ((1 * 2 ^ y) % 2 ^ 64)))
gathered_more depths layers y g few l = rw (shl_one y few) (record {
  size = length-set layers _ _ ∙ g.size;
  each = λ d k. mask_step y (λ x. eqb (at depths x) d) _ _ refl (case≡ d (at depths y)
      (λ f. rw (f, get_or-set_same layers (at depths y) (bit_or (at layers (at depths y)) (2 ^ y)) 0 (omega (arith, g.size)), g.each (at depths y) l, eqb_self (at depths y))
      (or_above _ y (mask_lt y _)))
      (λ f. rw (get_or-set_other layers (at depths y) d _ 0 f, ne_eqb (at depths y) d (λ z. f (sym z))) (omega (arith, g.each d k))));
})
