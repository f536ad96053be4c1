use Rattle.vertex_set.proofs.Laws.Layers.{Gathered}
use Rattle.vertex_set.proofs.layers.Given as goal

abbrev pub invariant-loop-x : goal.invariant-loop-x
invariant-loop-x l = Gathered l.depth l.x l.layers
