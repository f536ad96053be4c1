use mathlib.Core.Path.{refl}
use Rattle.arithmetic.specs.Table.{tab}
use Rattle.cost_sheet.proofs.Laws.Sheet.{tells_none}
use Rattle.cost_sheet.proofs.Sheet.new.Goals as goal

-- `Sheet::new` meets its contract.
pub returns : goal.returns
unfolding tab
returns c = tells_none _ refl
