use Rattle.std.proofs.Common.{◌≡◌, length}
use Rattle.pricing.specs.Steps.Entering.{AllScaled}
use Rattle.pricing.proofs.scale_potential.Given as goal

abbrev pub invariant-loop-x : goal.invariant-loop-x
invariant-loop-x l = (length l.out ≡ 64) × AllScaled l.x l.basis.potential l.out
