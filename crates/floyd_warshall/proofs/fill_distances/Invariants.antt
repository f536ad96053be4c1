use Rattle.graph.specs.Graph.{graph_of}
use Rattle.graph.specs.Distance.{via}
use Rattle.floyd_warshall.proofs.Laws.FloydWarshall.{Fills}
use Rattle.floyd_warshall.proofs.fill_distances.Given as goal

abbrev pub invariant-loop-k : goal.invariant-loop-k
invariant-loop-k l = Fills l.g.n (via (graph_of l.g) l.k) l.initial.out l.out
