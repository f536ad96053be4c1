use mathlib.Core.Path.{◌≡◌}
use Rattle.arithmetic.specs.Table.{at}
use Rattle.dijkstra.proofs.Laws.Relaxing.{Nearer}
use Rattle.dijkstra.proofs.nearest.Given as goal

abbrev pub invariant-loop-left : goal.invariant-loop-left
invariant-loop-left l = Nearer l.frontier (at l.labels) l.left l.x × (l.least ≡ at l.labels l.x)

abbrev pub decreases-loop-left : goal.decreases-loop-left
decreases-loop-left l = l.left
