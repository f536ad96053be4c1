use Rattle.dijkstra.proofs.Laws.Relaxing.{Walked}
use Rattle.dijkstra.proofs.relax_edges.Given as goal

abbrev pub invariant-loop-k : goal.invariant-loop-k
invariant-loop-k l = Walked l.g.a.now l.g.b.now l.g.lengths.now l.star.last l.star.before l.x l.near l.frontier l.initial.labels l.k l.word l.labels

abbrev pub decreases-loop-k : goal.decreases-loop-k
decreases-loop-k l = l.k
