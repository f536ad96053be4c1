use native.Mathlib.Omega.{arith}
use Rattle.arithmetic.proofs.Laws.Sum.{sum_ge}
use Rattle.arithmetic.specs.Table.{at}
use Rattle.arithmetic.proofs.Laws.Fill.{filling_none, filling_more, filled-end}
use Rattle.first_basis.proofs.perturb.Goals as goal

pub loop-y-init : goal.loop-y-init
loop-y-init c = filling_none _ _ (omega (arith, c.requires.few, c.requires.out_size))

pub perturbed-requires : goal.perturbed-requires
perturbed-requires c =
    (omega (arith, sum_ge _ _ (at c.args.masses.now) c.loop-y-test.true, c.requires.light), c.requires.first_few, c.requires.rest_few)

pub loop-y-preserved : goal.loop-y-preserved
loop-y-preserved c =
    filling_more c.loop-y.invariant c.loop-y-test.true c.perturbed.ensures

pub returns : goal.returns
returns c = filled-end c.loop-y.invariant c.loop-y-test.false
