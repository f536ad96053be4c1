use lib.Ieee.{of_bits, mul, binary32}
use Rattle.skin_weights.proofs.Laws.Scaled.{grains_f, Scales, scales, may_cut, cut_float, cut_tells}
use Rattle.skin_weights.proofs.weight.whole_grains.Goals as goal

pub truncating_f32_to_u64-cut-requires : goal.truncating_f32_to_u64-cut-requires
unfolding of_bits
truncating_f32_to_u64-cut-requires c =
    let product : Scales c.args.w (mul binary32 c.args.w grains_f) = scales c.args.w c.well_formed.0.1 c.requires in
    let within = may_cut product in
    record { lower_bound = within.0; upper_bound = within.1 }

pub int_to_float-result : goal.int_to_float-result
unfolding of_bits
int_to_float-result c =
    let product : Scales c.args.w (mul binary32 c.args.w grains_f) = scales c.args.w c.well_formed.0.1 c.requires in rw c.truncating_f32_to_u64-cut.ensures (cut_float product)

pub returns : goal.returns
unfolding of_bits
returns c =
    let product : Scales c.args.w (mul binary32 c.args.w grains_f) = scales c.args.w c.well_formed.0.1 c.requires in rw c.truncating_f32_to_u64-cut.ensures (cut_tells product)
