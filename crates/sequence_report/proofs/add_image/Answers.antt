use mathlib.Core.Path.{sym, ◌∙◌}
use native.Mathlib.Nat.{mul-le-mul}
use native.Mathlib.Omega.{arith}
use Rattle.refusals.proofs.Laws.Outcome.{number_some}
use Rattle.sequence_report.proofs.Laws.Report.{number_told, cost_told, room_for, sum_fits}
use Rattle.sequence_report.proofs.add_image.Goals as goal

-- `add_image` meets its contract.
pub image_at-requires : goal.image_at-requires
image_at-requires c = (c.requires.0, omega (arith, c.requires.1))

pub answer_image-requires : goal.answer_image-requires
answer_image-requires c h = omega (arith, mul-le-mul h h)

pub with-requires : goal.with-requires
with-requires c =
    let a = c.in-Ok.ensures in
    let e = number_told _ _ c.image_at.ensures a in
    let r = room_for _ c.requires.2 c.requires.3 e in
    (r.0, r.1, λ z. sum_fits _ c.requires.2 c.requires.3 e z (cost_told _ _ c.image_at.ensures a))

pub returns-in-Ok : goal.returns-in-Ok
returns-in-Ok c =
    let a = c.in-Ok.ensures in
    c.with.ensures _ _ c.requires.3 (number_told _ _ c.image_at.ensures a) (λ _. cost_told _ _ c.image_at.ensures a)

pub with-requires-in-Err : goal.with-requires-in-Err
with-requires-in-Err c =
    let e = number_told _ _ c.image_at.ensures c.in-Err.ensures in
    let r = room_for _ c.requires.2 c.requires.3 (c.number.ensures.0 ∙ e) in
    (r.0, r.1, λ z. absurd (number_some c.in-Err.refusal (sym c.number.ensures.0 ∙ z)))

pub returns-in-Err : goal.returns-in-Err
returns-in-Err c =
    let e = number_told _ _ c.image_at.ensures c.in-Err.ensures in
    c.with-in-Err.ensures _ _ c.requires.3 (c.number.ensures.0 ∙ e) (λ z. absurd (number_some c.in-Err.refusal (sym c.number.ensures.0 ∙ z)))
