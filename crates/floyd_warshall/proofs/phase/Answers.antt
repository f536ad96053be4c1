use native.Mathlib.Omega.{arith}
use Rattle.floyd_warshall.proofs.Laws.FloydWarshall.{phase_none, phase_bounded, phase_more, phase_end}
use Rattle.floyd_warshall.proofs.phase.Goals as goal

pub loop-i-init : goal.loop-i-init
loop-i-init c = phase_none _ _ _ c.requires.0 c.requires.1 c.requires.2

pub relax_row-requires : goal.relax_row-requires
relax_row-requires c =
    (omega arith, omega arith, phase_bounded _ _ _ c.requires.0 c.requires.1 c.requires.2 _ _ c.loop-i.invariant)

pub loop-i-preserved : goal.loop-i-preserved
loop-i-preserved c =
    phase_more _ _ _ c.requires.0 c.requires.1 c.requires.2 _ _ c.loop-i.invariant _ c.loop-i-test.true c.relax_row.ensures

pub returns : goal.returns
returns c =
    phase_end _ _ _ c.requires.0 c.requires.1 c.requires.2 _ _ c.loop-i.invariant c.loop-i.auto.i-end c.loop-i-test.false
