use lib.Ieee.{of_bits}
use Rattle.skin_weights.proofs.Laws.Scaled.{quotient}
use Rattle.skin_weights.proofs.weight.weight_of.Goals as goal

-- `skin_weights::weight::weight_of` meets its contract.
pub returns : goal.returns
unfolding of_bits
returns c = quotient c.args.k c.requires
