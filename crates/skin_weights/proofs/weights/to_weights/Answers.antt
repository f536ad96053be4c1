use Rattle.std.proofs.Common.{◌^◌, leb, sym, ◌∙◌, ap, leb-true}
use Rattle.std.proofs.lemmas.List.{get_or_default}
use Rattle.arithmetic.specs.Table.{at}
use Rattle.refusals.proofs.Laws.Outcome.{handed_number, handed_some}
use Rattle.skin_weights.specs.Weight.{weight_of}
use Rattle.skin_weights.specs.Lists.{weights_of}
use Rattle.skin_weights.proofs.Laws.Tests.{item_passes}
use Rattle.skin_weights.proofs.Laws.Lists.{weights_refused, weights_passed, weights_filled}
use Rattle.skin_weights.proofs.weights.to_weights.Goals as goal

-- a refusal leaves the list as lent, and after all checks it is filled
pub returns-in_err-check_weights : goal.returns-in_err-check_weights
returns-in_err-check_weights c =
    let handed = c.from_residual.ensures.1 in
    let e = handed_number _ _ handed ∙ c.in_err-check_weights.ensures in
    (e, weights_refused _ _ e (handed_some _ _ handed))

pub fill_by-requires-clause-room : goal.fill_by-requires-clause-room
fill_by-requires-clause-room c = (weights_passed _ _ (sym c.in_ok-check_weights.ensures)).0

pub fill_by-requires-clause-callable : goal.fill_by-requires-clause-callable
fill_by-requires-clause-callable c = λ i x l e.
    leb-true _ _ (item_passes c.args.amounts.now 0 (λ k. leb k (2 ^ 24)) x i (weights_passed _ _ (sym c.in_ok-check_weights.ensures)).1 l e)

pub returns : goal.returns
unfolding weights_of
returns c =
    let xs = c.args.amounts.now in (
      c.in_ok-check_weights.ensures,
      weights_filled _ _ (sym c.in_ok-check_weights.ensures)
          (c.fill_by.ensures (λ i. weight_of (at xs i)) (λ i x y l e p. p ∙ ap weight_of (e ∙ get_or_default xs i x 0 l))),
    )
