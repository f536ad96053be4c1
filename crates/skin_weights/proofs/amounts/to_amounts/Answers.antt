use Rattle.std.specs.Float.{nan}
use Rattle.std.proofs.Common.{sym, ◌∙◌, ap}
use Rattle.std.proofs.lemmas.List.{get_or_default}
use Rattle.refusals.proofs.Laws.Outcome.{handed_number, handed_some}
use Rattle.skin_weights.specs.Weight.{in_unit_interval, whole_grains, amount_of}
use Rattle.skin_weights.specs.Lists.{weight_at, amounts_of}
use Rattle.skin_weights.proofs.Laws.Tests.{item_passes}
use Rattle.skin_weights.proofs.Laws.Lists.{amounts_refused, amounts_passed, amounts_filled}
use Rattle.skin_weights.proofs.amounts.to_amounts.Goals as goal

-- a refusal leaves the list as lent, and after all checks it is filled
pub returns-in_err-check_amounts : goal.returns-in_err-check_amounts
returns-in_err-check_amounts c =
    let handed = c.from_residual.ensures.1 in
    let e = handed_number _ _ handed ∙ c.in_err-check_amounts.ensures in
    (e, amounts_refused _ _ e (handed_some _ _ handed))

pub fill_by-requires-clause-room : goal.fill_by-requires-clause-room
fill_by-requires-clause-room c = (amounts_passed _ _ (sym c.in_ok-check_amounts.ensures)).0

pub fill_by-requires-clause-callable : goal.fill_by-requires-clause-callable
fill_by-requires-clause-callable c = λ i x l e.
    let passed = amounts_passed _ _ (sym c.in_ok-check_amounts.ensures) in
    (item_passes c.args.weights.now nan in_unit_interval x i passed.1 l e, item_passes c.args.weights.now nan whole_grains x i passed.2 l e)

pub returns : goal.returns
unfolding amounts_of
returns c =
    let ws = c.args.weights.now in (
      c.in_ok-check_amounts.ensures,
      amounts_filled _ _ (sym c.in_ok-check_amounts.ensures)
          (c.fill_by.ensures (λ i. amount_of (weight_at ws i)) (λ i x y l e p. p ∙ ap amount_of (e ∙ get_or_default ws i x nan l))),
    )
