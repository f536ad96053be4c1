use Prim.Native.Nat.{◌≤◌}
use native.Mathlib.Omega.{arith}
use Rattle.arithmetic.specs.Table.{at}
use Rattle.vertex_set.proofs.Laws.Layers.{gathered_none, gathered_more}
use Rattle.vertex_set.proofs.layers.Goals as goal

pub loop-x-init : goal.loop-x-init
loop-x-init c = gathered_none _

pub loop-x-preserved : goal.loop-x-preserved
loop-x-preserved c =
    let depth_low : at c.args.depth.now c.loop-x.x ≤ c.args.n = c.requires.1.each _ c.loop-x-test.true in
    gathered_more c.args.depth.now _ _ c.loop-x.invariant (omega arith) (omega (arith, depth_low))
