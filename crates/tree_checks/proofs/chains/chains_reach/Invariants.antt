use Prim.Native.Nat.{◌-◌, ◌<◌}
use Rattle.arithmetic.specs.Table.{at}
use Rattle.tree_checks.specs.Steps.Doubling.{Ahead}
use Rattle.tree_checks.proofs.chains.chains_reach.Given as goal

abbrev pub invariant-loop-steps : goal.invariant-loop-steps
invariant-loop-steps l = (0 < l.steps) × Ahead l.n (at l.parents) l.steps l.ahead

abbrev pub decreases-loop-steps : goal.decreases-loop-steps
decreases-loop-steps l = l.n - l.steps
