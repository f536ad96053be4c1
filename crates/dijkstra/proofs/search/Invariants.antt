use mathlib.Core.Path.{◌≡◌}
use lib.ListN.{length}
use Rattle.arithmetic.specs.Table.{at}
use Rattle.graph.specs.Graph.{graph_of}
use Rattle.dijkstra.specs.Steps.Search.{unsettled, Searching}
use Rattle.dijkstra.proofs.search.Given as goal

abbrev pub invariant-loop-frontier : goal.invariant-loop-frontier
invariant-loop-frontier l = (length l.labels ≡ 64) × Searching (graph_of l.g) l.start l.frontier (at l.labels)

abbrev pub decreases-loop-frontier : goal.decreases-loop-frontier
decreases-loop-frontier l = unsettled l.g.n l.frontier (at l.labels)
