use Rattle.floyd_warshall.proofs.Laws.FloydWarshall.{diagonal_none, diagonal_more, diagonal_end}
use Rattle.floyd_warshall.proofs.zero_diagonal.Goals as goal

pub loop-i-init : goal.loop-i-init
loop-i-init c = diagonal_none _ _ c.requires

pub loop-i-preserved : goal.loop-i-preserved
loop-i-preserved c = diagonal_more _ _ c.requires _ _ _ c.loop-i-test.true c.loop-i.invariant c.put.ensures

pub returns : goal.returns
returns c = diagonal_end _ _ c.requires _ _ c.loop-i.auto.i-end c.loop-i-test.false c.loop-i.invariant
