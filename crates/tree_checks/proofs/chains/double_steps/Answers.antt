use Prim.Native.Nat.{◌<◌}
use native.Mathlib.Omega.{arith}
use Rattle.arithmetic.specs.Table.{at}
use Rattle.tree_checks.proofs.Laws.Doubling.{doubling_none, doubling_more, doubling_end}
use Rattle.tree_checks.proofs.chains.double_steps.Goals as goal

pub loop-x-init : goal.loop-x-init
loop-x-init c = doubling_none c.requires.1

pub overflow_cast-ahead : goal.overflow_cast-ahead
overflow_cast-ahead c =
    let entry-low : at c.loop-x.ahead c.loop-x.x < c.args.n = c.loop-x.invariant.inside.low _ c.loop-x-test.true in omega (arith, entry-low)

pub loop-x-preserved : goal.loop-x-preserved
loop-x-preserved c =
    doubling_more c.loop-x.invariant c.loop-x-test.true

pub returns : goal.returns
returns c = doubling_end c.loop-x.invariant c.loop-x-test.false
