use Rattle.arithmetic.specs.Table.{tab}
use Rattle.sequence_report.proofs.report.Goals as goal

-- `report` meets its contract.
pub returns-clause-tally : goal.returns-clause-tally
unfolding tab
returns-clause-tally c = c.in_ok-totals.ensures.tally
