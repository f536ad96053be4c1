use Rattle.std.proofs.Common.{◌≡◌}
use Rattle.arithmetic.specs.Sum.{sum}
use Rattle.arithmetic.specs.Steps.Table.{cell}
use Rattle.plan_moves.specs.Steps.Count.{move_at}
use Rattle.plan_moves.proofs.count_moves.Given as goal

abbrev pub invariant-loop-i : goal.invariant-loop-i
invariant-loop-i l = l.count ≡ sum l.i (λ i. sum l.n (move_at (cell l.n l.plan) i))
