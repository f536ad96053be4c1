use mathlib.Core.Path.{ap, ◌∙◌}
use native.Mathlib.Omega.{arith}
use lib.ListN.{length}
use Rattle.decimal_text.proofs.Laws.Signed.{signed_most, same_text}
use Rattle.decimal_text.proofs.Laws.Wrote.{wrote_same}
use Rattle.page_line.proofs.Laws.Line.{figure-room, figure_wrote}
use Rattle.page_line.proofs.write_figure.Goals as goal

-- `write_figure` meets its contract.
pub overflow_sub-signed_width : goal.overflow_sub-signed_width
overflow_sub-signed_width c =
    omega (arith, c.signed_width.ensures, ap length (same_text c.args.z c.ranges.z), signed_most c.args.z c.ranges.z)

pub write_signed-requires : goal.write_signed-requires
write_signed-requires c =
    let e = same_text c.args.z c.ranges.z in
    omega (
      arith,
      ap length e,
      figure-room c.args.z (signed_most c.args.z c.ranges.z) (c.signed_width.ensures ∙ ap length e) c.requires c.write_spaces-at.ensures,
    )

pub returns : goal.returns
returns c =
    let e = same_text c.args.z c.ranges.z in
    figure_wrote c.args.z (signed_most c.args.z c.ranges.z) (c.signed_width.ensures ∙ ap length e) c.requires c.write_spaces-at.ensures
    (wrote_same e c.write_signed.ensures)
