use lib.Ieee.{of_bits, mul, binary32}
use Rattle.skin_weights.proofs.Laws.Compared.{zero-amount}
use Rattle.skin_weights.proofs.Laws.Scaled.{grains_f, Scales, scales, cut_amount, cast_loses_nothing}
use Rattle.skin_weights.proofs.weight.amount_of.Goals as goal

pub returns-then-w : goal.returns-then-w
unfolding of_bits
returns-then-w c = zero-amount c.args.w c.if-w.true

pub float_to_int-result : goal.float_to_int-result
unfolding of_bits
float_to_int-result c =
    let product : Scales c.args.w (mul binary32 c.args.w grains_f) = scales c.args.w c.well_formed.0.1 c.requires.0 in cast_loses_nothing product c.requires.1 c.if-w.false

pub returns : goal.returns
unfolding of_bits
returns c =
    let product : Scales c.args.w (mul binary32 c.args.w grains_f) = scales c.args.w c.well_formed.0.1 c.requires.0 in cut_amount product
