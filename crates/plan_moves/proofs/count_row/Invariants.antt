use Rattle.std.proofs.Common.{◌≡◌}
use Rattle.arithmetic.specs.Sum.{sum}
use Rattle.arithmetic.specs.Steps.Table.{cell}
use Rattle.plan_moves.specs.Steps.Count.{positive_at}
use Rattle.plan_moves.proofs.count_row.Given as goal

abbrev pub invariant-loop-j : goal.invariant-loop-j
invariant-loop-j l = l.count ≡ sum l.j (positive_at (cell l.n l.plan) l.i)
