use mathlib.Core.Path.{◌≡◌}
use Rattle.arithmetic.proofs.Laws.Table.{row_below}
use native.Mathlib.Omega.{arith}
use Rattle.decimal_text.proofs.Laws.Wrote.{wrote_same}
use Rattle.listing_lines.proofs.Laws.Line.{rows_none, rows_more, row_part, row_handed}
use Rattle.listing_lines.proofs.write_rows.Goals as goal

pub loop-i-init : goal.loop-i-init
loop-i-init c = (omega arith, rows_none _ _ _ _)

pub loop-i-preserved : goal.loop-i-preserved
loop-i-preserved c =
    let a = c.args in
    let i = c.loop-i.i in
    let below = row_below a.n i a.n c.loop-i-test.true in
    let w = c.write_row-end.ensures in
    let k = row_part a.n i a.plan.now (omega arith) in
    (omega arith, rows_more _ _ _ _ _ (omega arith) c.loop-i.invariant.1 (wrote_same (row_handed a.n i a.plan.now k) w.1))

pub returns : goal.returns
returns c =
    let e : c.loop-i.i ≡ c.args.n = omega arith in
    rw e at c.loop-i.invariant.1
