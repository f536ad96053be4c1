use Rattle.std.proofs.Common.{length}
use Rattle.arithmetic.specs.Steps.Fill.{Filling}
use Rattle.skin_weights.specs.Steps.Filling.{Makes}
use Rattle.skin_weights.proofs.filling.fill_by.Given as goal

abbrev pub invariant-loop-i : goal.invariant-loop-i
invariant-loop-i g l = (f : _) → Makes (goal.F-post g l.f) l.items f → Filling (length l.items) f l.initial.out l.out l.i
