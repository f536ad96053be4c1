use Rattle.std.proofs.Common.{length, ◌-◌, ◌≤◌}
use Rattle.mover.proofs.read_full.Given as goal

abbrev pub invariant-loop-size : goal.invariant-loop-size
invariant-loop-size l = l.size ≤ length l.buffer

abbrev pub decreases-loop-size : goal.decreases-loop-size
decreases-loop-size l = length l.buffer - l.size
