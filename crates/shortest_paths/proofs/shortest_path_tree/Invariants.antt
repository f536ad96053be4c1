use Rattle.arithmetic.specs.Sum.{sum}
use Rattle.arithmetic.specs.Table.{at}
use Rattle.graph.specs.Graph.{graph_of}
use Rattle.path_labels.specs.Steps.Labels.{Labelled, FeasibleUp}
use Rattle.shortest_paths.proofs.shortest_path_tree.Given as goal

abbrev pub invariant-loop : goal.invariant-loop
invariant-loop l = Labelled (graph_of l.g) l.start l.parents l.edge l.labels × FeasibleUp l.g.a.now l.g.b.now l.g.lengths.now l.labels

abbrev pub decreases-loop : goal.decreases-loop
decreases-loop l = sum l.g.n (at l.labels)
