use Rattle.arithmetic.specs.Table.{at}
use Rattle.subtree_sums.proofs.Laws.Heights.{Tilting}
use Rattle.subtree_sums.proofs.word_heights.Given as goal

abbrev pub invariant-loop-x : goal.invariant-loop-x
invariant-loop-x l = Tilting l.n l.ground (at l.masks) (at l.rising) (at l.falling) l.x l.heights
