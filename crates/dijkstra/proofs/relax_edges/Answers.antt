use Prim.Native.Nat.{◌-◌}
use native.Mathlib.Omega.{arith}
use Rattle.dijkstra.proofs.Laws.Relaxing.{walked_none, walked_step, walked_more}
use Rattle.dijkstra.proofs.relax_edges.Goals as goal

pub loop-k-init : goal.loop-k-init
loop-k-init c = walked_none c.requires

pub overflow_sub-y : goal.overflow_sub-y
overflow_sub-y c =
    let w = walked_step c.requires c.loop-k.invariant (c.loop-k.k - 1) (omega arith) in
    omega (arith, w.other)

pub relax-word-requires : goal.relax-word-requires
relax-word-requires c =
    let w = walked_step c.requires c.loop-k.invariant (c.loop-k.k - 1) (omega arith) in
    (omega (arith, w.other, w.inside), w.long)

pub loop-k-smaller : goal.loop-k-smaller
loop-k-smaller c =
    let w = walked_step c.requires c.loop-k.invariant (c.loop-k.k - 1) (omega arith) in
    omega (arith, w.falls)

pub loop-k-preserved : goal.loop-k-preserved
loop-k-preserved c =
    let w = walked_step c.requires c.loop-k.invariant (c.loop-k.k - 1) (omega arith) in
    walked_more c.requires c.loop-k.invariant (c.loop-k.k - 1) (omega arith) (omega (arith, w.other)) c.relax-word.ensures
