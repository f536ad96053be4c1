use Rattle.arithmetic.specs.Table.{at}
use Rattle.arithmetic.specs.Steps.Fill.{Filling}
use Rattle.subtree_sums.proofs.copy.Given as goal

abbrev pub invariant-loop-x : goal.invariant-loop-x
invariant-loop-x l = Filling l.n (at l.from) l.initial.to l.to l.x
