use mathlib.Core.Path.{ap}
use native.Mathlib.Omega.{arith}
use Rattle.decimal_text.proofs.Laws.Signed.{signed_most, same_text}
use Rattle.decimal_text.proofs.Laws.Wrote.{wrote_same}
use Rattle.page_line.specs.Line.{right_aligned}
use Rattle.page_line.proofs.Laws.Line.{length-spaces, line_wrote}
use Rattle.page_line.proofs.write_line.Goals as goal

-- `write_line` meets its contract.
pub write_byte-requires : goal.write_byte-requires
write_byte-requires c = omega (arith, length-spaces 5)

pub returns : goal.returns
returns c =
    let i = c.args.imbalance in
    let u = c.args.potential in
    line_wrote c.args.depth c.args.v i u c.requires.0 (signed_most i c.ranges.imbalance) (signed_most u c.ranges.potential) c.requires.2
    c.write_vertex-first.ensures.1
    (wrote_same (ap (right_aligned 11) (same_text i c.ranges.imbalance)) c.write_figure-second.ensures.1)
    (wrote_same (ap (right_aligned 11) (same_text u c.ranges.potential)) c.write_figure-third.ensures.1)
    c.write_spaces-last.ensures
    c.write_byte.ensures
