use Rattle.arithmetic.proofs.Laws.Fill.{filling_none, filling_more, filling_written}
use Rattle.skin_weights.proofs.filling.fill_by.Goals as goal

pub loop-i-init : goal.loop-i-init
loop-i-init g c = λ f h. filling_none f _ c.requires.room

pub loop-i-preserved : goal.loop-i-preserved
loop-i-preserved g c = λ f h.
    filling_more (c.loop-i.invariant f h) c.loop-i-test.true (h c.loop-i.i c.index-items-i.result c.f.result c.loop-i-test.true c.index-items-i.is c.f.ensures)

pub returns : goal.returns
returns g c = λ f h. filling_written (c.loop-i.invariant f h) c.loop-i-test.false
