use native.Mathlib.Omega.{arith}
use Rattle.image_reader.proofs.Laws.Fills.{amounts_filled}
use Rattle.image_reader.proofs.sections.fill_amounts.Goals as goal

-- `fill_amounts` meets its contract.
pub fill_fours-requires : goal.fill_fours-requires
fill_fours-requires c = (omega arith, λ e h. omega arith)

pub returns : goal.returns
returns c = search amounts_filled
