use native.Mathlib.Omega.{arith}
use Rattle.first_basis.proofs.Laws.FirstBasis.{above_none, above_more, above_end}
use Rattle.first_basis.proofs.lengths_above.Goals as goal

pub loop-x-init : goal.loop-x-init
loop-x-init c = above_none _ _ _

pub loop-x-preserved : goal.loop-x-preserved
loop-x-preserved c = above_more c.args.lengths.now c.args.edge.now _ c.loop-x.out _ (omega arith) c.loop-x.invariant

pub returns : goal.returns
returns c = above_end _ _ _ _ _ _ c.loop-x-test.false c.loop-x.invariant
