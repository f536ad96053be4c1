use lib.Ieee.{of_bits}
use Rattle.skin_weights.proofs.Laws.Compared.{not-below-zero, below-zero}
use Rattle.skin_weights.proofs.weight.in_unit_interval.Goals as goal

pub returns-then-w : goal.returns-then-w
unfolding of_bits
returns-then-w c = not-below-zero c.args.w c.if-w.true

-- `skin_weights::weight::in_unit_interval` meets its contract. The constants stand as their bits: `unfolding of_bits` makes them `fin s m e`.
pub returns : goal.returns
unfolding of_bits
returns c = below-zero c.args.w c.if-w.false
