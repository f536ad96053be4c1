use Rattle.std.proofs.Common.{◌≡◌, arith}
use Rattle.transport_plan.proofs.Laws.Start.{shared_none, shared_more, begun, amount_fits}
use Rattle.transport_plan.proofs.keep_shared.Goals as goal

pub loop-x-init : goal.loop-x-init
loop-x-init c = shared_none c.requires.2 (omega arith) (omega arith)

pub overflow_cast-before : goal.overflow_cast-before
overflow_cast-before c = omega (arith, (amount_fits _ _ _ _ c.requires.1 c.loop-x-test.true).0)

pub overflow_cast-after : goal.overflow_cast-after
overflow_cast-after c = omega (arith, (amount_fits _ _ _ _ c.requires.1 c.loop-x-test.true).1)

pub loop-x-preserved : goal.loop-x-preserved
loop-x-preserved c =
    shared_more c.loop-x.invariant c.requires.2.room c.loop-x-test.true c.min.ensures c.saturating_sub.ensures c.saturating_sub-in-loop-x.ensures
    c.place.ensures.0

pub returns : goal.returns
returns c =
    let e : c.loop-x.x ≡ c.args.n = omega arith in
    begun (rw e at c.loop-x.invariant) c.requires.0 c.requires.2.room c.requires.1 c.new.ensures
