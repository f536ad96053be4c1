use Rattle.sequence_report.specs.Steps.Told.{Told}
use Rattle.sequence_report.proofs.sheet_of.Given as goal

abbrev pub invariant-loop-i : goal.invariant-loop-i
invariant-loop-i l = Told l.reel l.i l.sheet
