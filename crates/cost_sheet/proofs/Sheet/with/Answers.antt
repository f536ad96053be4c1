use mathlib.Core.Path.{◌≡◌, ap, ◌∙◌}
use mathlib.Core.Bool.{not}
use mathlib.Core.Logic.{⊎_elim}
use native.Mathlib.Omega.{arith}
use Rattle.cost_sheet.proofs.Laws.Sheet.{refused_more, first_more, greater_more, kept_more}
use Rattle.cost_sheet.proofs.Sheet.with.Goals as goal

-- `Sheet::with` meets its contract.
pub returns-then-refusal-ne0 : goal.returns-then-refusal-ne0
returns-then-refusal-ne0 c numbers costs w e f = refused_more w e c.requires.0 (omega (arith, c.if-refusal-ne0.true))

pub overflow_add-self-2 : goal.overflow_add-self-2
overflow_add-self-2 c = omega (arith, c.requires.2 (omega (arith, c.if-refusal-ne0.false)))

pub returns-then-is_none : goal.returns-then-is_none
returns-then-is_none c numbers costs w e f =
    let z : c.args.refusal ≡ 0 = omega (arith, c.if-refusal-ne0.false) in
    ⊎_elim
    (λ q. first_more w e z (f z) (c.is_none.ensures ∙ ap not q))
    (λ q. greater_more w e z (f z) q.1)
    c.then-is_none.either

pub returns-else-self-cost : goal.returns-else-self-cost
returns-else-self-cost c numbers costs w e f =
    let z : c.args.refusal ≡ 0 = omega (arith, c.if-refusal-ne0.false) in
    kept_more w e z (f z) c.if-is_none.ensures c.if-self-cost.false
