use Prim.Native.Nat.{◌-◌}
use mathlib.Core.Path.{◌≡◌}
use native.Mathlib.Omega.{arith}
use Rattle.path_labels.proofs.Laws.Labelling.{down_can, down_more}
use Rattle.path_labels.proofs.sweep_down.Goals as goal

pub relax-requires : goal.relax-requires
relax-requires c = down_can c.loop-e.invariant (c.loop-e.e - 1) (omega arith) (omega arith) c.requires

pub loop-e-preserved-then-relax : goal.loop-e-preserved-then-relax
loop-e-preserved-then-relax c =
    down_more c.loop-e.invariant (c.loop-e.e - 1) (omega arith) (omega arith) c.relax.ensures _ (rw c.if-relax.true)

pub loop-e-preserved : goal.loop-e-preserved
loop-e-preserved c =
    down_more c.loop-e.invariant (c.loop-e.e - 1) (omega arith) (omega arith) c.relax.ensures _ (rw c.if-relax.false)

pub returns : goal.returns
returns c =
    let end : c.loop-e.e ≡ 0 = omega arith in
    rw end at c.loop-e.invariant
