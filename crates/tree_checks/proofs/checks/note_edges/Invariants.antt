use Rattle.arithmetic.specs.Table.{at}
use Rattle.graph.specs.Graph.{graph_of}
use Rattle.tree_checks.specs.Steps.ParentEdges.{NotedTo}
use Rattle.tree_checks.proofs.checks.note_edges.Given as goal

abbrev pub invariant-loop-e : goal.invariant-loop-e
invariant-loop-e l = NotedTo (graph_of l.g) (at l.parents) l.e l.initial.above l.above l.initial.joined l.joined
