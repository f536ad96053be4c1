use native.Mathlib.Omega.{arith}
use Rattle.listing_lines.proofs.Laws.Line.{row_none, row_more, row_end}
use Rattle.listing_lines.proofs.write_row.Goals as goal

pub loop-j-init : goal.loop-j-init
loop-j-init c = (omega arith, row_none _ _ _ _)

pub loop-j-preserved : goal.loop-j-preserved
loop-j-preserved c =
    let w = c.write_entry-end.ensures in
    (omega arith, row_more _ _ _ _ _ (omega arith) c.loop-j.invariant.1 w.1)

pub returns : goal.returns
returns c =
    let v = c.loop-j.invariant in
    row_end _ _ _ _ _ _ c.loop-j.auto.j-end c.loop-j-test.false v.0 v.1
