use Rattle.std.proofs.Common.{rules}
use Rattle.arithmetic.proofs.Laws.Slices.{take_tab}
use Rattle.arithmetic.proofs.Laws.Table.{length-tab}
use Rattle.optimal_transport.proofs.write_parents.Goals as goal

pub returns : goal.returns
returns c = search (rules, take_tab, length-tab)
