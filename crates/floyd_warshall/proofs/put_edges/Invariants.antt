use Rattle.arithmetic.specs.Steps.Table.{cell}
use Rattle.graph.specs.Graph.{graph_of}
use Rattle.floyd_warshall.proofs.Laws.FloydWarshall.{Fills, edges_to}
use Rattle.floyd_warshall.proofs.put_edges.Given as goal

abbrev pub invariant-loop-e : goal.invariant-loop-e
invariant-loop-e l = Fills l.g.n (edges_to (graph_of l.g) l.e (cell l.g.n l.initial.out)) l.initial.out l.out
