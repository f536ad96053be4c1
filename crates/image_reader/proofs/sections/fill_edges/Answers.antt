use native.Mathlib.Omega.{arith}
use Rattle.image_reader.proofs.Laws.Fills.{lower_filled, upper_filled, lengths_filled}
use Rattle.image_reader.proofs.sections.fill_edges.Goals as goal

-- `fill_edges` meets its contract.
pub fill_bytes-requires : goal.fill_bytes-requires
fill_bytes-requires c = (omega arith, λ e h. omega arith)

pub fill_bytes-requires-2 : goal.fill_bytes-requires-2
fill_bytes-requires-2 c = (omega arith, λ e h. omega arith)

pub fill_twos-requires : goal.fill_twos-requires
fill_twos-requires c = (omega arith, λ e h. omega arith)

pub returns : goal.returns
returns c = record { a_after = search lower_filled; b_after = search upper_filled; lengths_after = search lengths_filled }
