use Prim.Native.Nat.{◌+◌}
use native.Mathlib.Omega.{arith}
use lib.ListN.{length}
use Rattle.arithmetic.specs.Table.{at}
use Rattle.arithmetic.proofs.Laws.Sum.{sum-nil, sum_step, sum_front}
use Rattle.little_endian.proofs.Laws.Byte.{pieces_none, pieces_more, pieces_end}
use Rattle.packed_image.proofs.Laws.Packed.{length-pair}
use Rattle.packed_image.proofs.write_pairs.Goals as goal

pub loop-t-init : goal.loop-t-init
loop-t-init c =
    (pieces_none 8 _ (length-pair _ _), omega (arith, sum-nil (at c.args.lengths.now)))

pub overflow_add-start : goal.overflow_add-start
overflow_add-start c =
    let long = at c.args.lengths.now in
    let t = c.loop-t.t in
    omega (arith, c.requires, c.loop-t.invariant.1, sum_step t long, sum_front (t + 1) (length c.args.lengths.now) long (omega arith))

pub loop-t-preserved : goal.loop-t-preserved
loop-t-preserved c = (
  pieces_more 8 _ (length-pair _ _) c.loop-t.invariant.0 c.loop-t-test.true (omega arith) (omega arith)
      (rw c.loop-t.invariant.1 at c.write_pair.ensures),
  omega (arith, c.loop-t.invariant.1, sum_step c.loop-t.t (at c.args.lengths.now)),
)

pub shape_of-out : goal.shape_of-out
shape_of-out c = c.loop-t.invariant.0.long

pub returns : goal.returns
returns c = pieces_end 8 _ (length-pair _ _) c.loop-t.invariant.0 c.loop-t-test.false
