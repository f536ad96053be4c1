use lib.Bits.{and_mask}
use Prim.Native.Nat.{◌/◌, ◌^◌}
use Rattle.ratio_test.proofs.in_subtree.Goals as goal

pub returns : goal.returns
returns c = rw (and_mask (c.args.mask / 2 ^ c.args.y) 1)
