use Rattle.tree_checks.proofs.Laws.Doubling.{Doubling}
use Rattle.tree_checks.proofs.chains.double_steps.Given as goal

abbrev pub invariant-loop-x : goal.invariant-loop-x
invariant-loop-x l = Doubling l.n l.x l.initial.ahead l.ahead
