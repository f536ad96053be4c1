use native.Mathlib.Omega.{arith}
use Rattle.image_sequence.proofs.Laws.Sequence.{two_bytes}
use Rattle.sequence_report.proofs.Laws.Report.{tells_at}
use Rattle.sequence_report.proofs.sheet_of.Goals as goal

pub image_count-i-end-requires : goal.image_count-i-end-requires
image_count-i-end-requires c = two_bytes _ c.requires

pub loop-i-init : goal.loop-i-init
loop-i-init c = c.new-sheet.ensures _ _

pub add_image-sheet-requires : goal.add_image-sheet-requires
add_image-sheet-requires c =
    (c.requires, omega (arith, c.loop-i-test.true), omega (arith, c.loop-i-test.true), c.loop-i.invariant)

pub loop-i-preserved : goal.loop-i-preserved
loop-i-preserved c = c.add_image-sheet.ensures

pub returns : goal.returns
returns c =
    tells_at (omega (arith, c.loop-i-test.false, c.image_count-i-end.ensures.0)) c.loop-i.invariant
