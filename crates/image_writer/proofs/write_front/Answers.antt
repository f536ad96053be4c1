use Prim.Native.Nat.{◌+◌}
use native.Mathlib.Omega.{arith}
use Rattle.arithmetic.proofs.Laws.Sum.{pick-le}
use Rattle.image_writer.proofs.Laws.Whole.{starts_fit}
use Rattle.image_writer.proofs.write_front.Goals as goal

pub write_header-requires : goal.write_header-requires
write_header-requires c = (
  omega arith,
  omega arith,
  starts_fit _ _ _ c.requires.0 c.requires.1 (omega (arith, pick-le c.args.tree (c.args.n + 1))),
)
