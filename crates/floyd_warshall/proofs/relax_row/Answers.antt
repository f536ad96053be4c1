use mathlib.Core.Path.{refl}
use native.Mathlib.Omega.{arith}
use Rattle.floyd_warshall.proofs.Laws.FloydWarshall.{row_none, row_ahead, row_more, row_end}
use Rattle.floyd_warshall.proofs.relax_row.Goals as goal

pub loop-j-init : goal.loop-j-init
loop-j-init c = row_none _ _ _ _ c.requires.0 c.requires.1 c.requires.2.room

-- both numbers are as they were when the row began, and at most `far`
pub overflow_add-first-in-loop-j : goal.overflow_add-first-in-loop-j
overflow_add-first-in-loop-j c =
    let h = c.loop-j-test.true in
    omega (
      arith,
      c.requires.2.most _ _ c.requires.1 c.requires.0,
      c.requires.2.most _ _ c.requires.0 h,
      row_ahead _ _ _ _ c.requires.0 c.requires.1 c.requires.2.room _ _ c.loop-j.invariant _ c.requires.0 h,
    )

pub loop-j-preserved : goal.loop-j-preserved
loop-j-preserved c =
    row_more _ _ _ _ c.requires.0 c.requires.1 c.requires.2.room _ _ c.loop-j.invariant _ _ c.loop-j-test.true refl c.min.ensures

pub returns : goal.returns
returns c =
    row_end _ _ _ _ c.requires.0 c.requires.1 c.requires.2.room _ _ c.loop-j.invariant c.loop-j.auto.j-end c.loop-j-test.false
