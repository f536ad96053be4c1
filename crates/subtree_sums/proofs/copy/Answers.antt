use mathlib.Core.Path.{refl}
use native.Mathlib.Omega.{arith}
use Rattle.arithmetic.proofs.Laws.Fill.{filling_none, filling_more, filled-end}
use Rattle.subtree_sums.proofs.copy.Goals as goal

pub loop-x-init : goal.loop-x-init
loop-x-init c = filling_none _ _ (omega arith)

pub loop-x-preserved : goal.loop-x-preserved
loop-x-preserved c = filling_more c.loop-x.invariant c.loop-x-test.true refl

pub returns : goal.returns
returns c = filled-end c.loop-x.invariant c.loop-x-test.false
