use Rattle.arithmetic.specs.Steps.Mask.{bit}
use Rattle.plan_rule.specs.Steps.Taken.{taken}
use Rattle.plan_layers.specs.Steps.Layers.{set_of}
use Rattle.plan_layers.proofs.Laws.Layering.{Remaining}
use Rattle.plan_layers.proofs.take_layer.Given as goal

abbrev pub invariant-loop-left : goal.invariant-loop-left
invariant-loop-left l = Remaining l.n l.masks (taken l.n (bit l.vertices) (set_of l.masks) l.n) l.initial.residue l.initial.plan l.left l.residue l.plan

abbrev pub decreases-loop-left : goal.decreases-loop-left
decreases-loop-left l = l.left
