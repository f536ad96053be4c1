use mathlib.Core.Path.{refl, sym, ◌∙◌}
use native.Mathlib.Omega.{arith}
use borrow.Author.Tests.{le-leb, lt-leb}
use Rattle.image_sequence.proofs.Laws.Sequence.{two_bytes}
use Rattle.sequence_report.proofs.Laws.Report.{not_sequence, no_room, all_told, counts-written}
use Rattle.sequence_report.proofs.report_into.Goals as goal

-- `report_into` meets its contract.
pub returns-then-not-sequence_ok : goal.returns-then-not-sequence_ok
returns-then-not-sequence_ok c = record {
  fact = not_sequence _ _ (sym c.sequence_ok.ensures ∙ c.if-not-sequence_ok.true);
  tally = refl;
}

pub returns-then-tally-lt-PLACES : goal.returns-then-tally-lt-PLACES
returns-then-tally-lt-PLACES c = record {
  fact = no_room _ (sym c.sequence_ok.ensures ∙ c.if-not-sequence_ok.false) (lt-leb 24 _ (omega (arith, c.if-tally-lt-PLACES.true)));
  tally = refl;
}

pub sheet_of-sheet-requires : goal.sheet_of-sheet-requires
sheet_of-sheet-requires c =
    sym c.sequence_ok.ensures ∙ c.if-not-sequence_ok.false

pub image_count-requires : goal.image_count-requires
image_count-requires c = two_bytes _ (sym c.sequence_ok.ensures ∙ c.if-not-sequence_ok.false)

pub returns : goal.returns
returns c = record {
  fact = all_told _ c.sheet_of-sheet.ensures (sym c.sequence_ok.ensures ∙ c.if-not-sequence_ok.false) (le-leb 24 _ (omega (arith, c.if-tally-lt-PLACES.false)))
      c.image_count.ensures.0 c.unwrap_or.ensures;
  tally = counts-written _ c.sheet_of-sheet.ensures _ c.write_tally.ensures;
}
