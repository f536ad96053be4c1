use native.Mathlib.Omega.{arith}
use Rattle.arithmetic.proofs.Laws.Fill.{filling_none, filling_more, filled-end}
use Rattle.first_basis.proofs.potential.potential.Goals as goal

pub loop-y-init : goal.loop-y-init
loop-y-init c = filling_none _ _ (omega (arith, c.requires.0.few, c.requires.1))

pub potential_of-requires : goal.potential_of-requires
potential_of-requires c = (c.requires.0, omega arith)

pub loop-y-preserved : goal.loop-y-preserved
loop-y-preserved c =
    filling_more c.loop-y.invariant c.loop-y-test.true c.potential_of.ensures

pub returns : goal.returns
returns c = filled-end c.loop-y.invariant c.loop-y-test.false
