use Rattle.std.proofs.Math.ListN.{replicate}
use Rattle.transport_plan.specs.Steps.PlanSteps.{SharedKept}
use Rattle.transport_plan.proofs.keep_shared.Given as goal

abbrev pub invariant-loop-x : goal.invariant-loop-x
invariant-loop-x l = SharedKept l.n l.mu l.nu (replicate 64 0) (replicate 64 0) l.initial.plan l.x l.surplus l.deficit l.plan
