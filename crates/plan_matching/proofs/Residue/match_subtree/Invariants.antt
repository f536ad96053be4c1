use Rattle.arithmetic.specs.Steps.Mask.{bit}
use Rattle.plan_rule.specs.Plan.{matched}
use Rattle.plan_rule.proofs.Laws.Matching.{unmatched}
use Rattle.plan_matching.specs.Steps.Residue.{partial_plan, Progress}
use Rattle.plan_matching.proofs.Residue.match_subtree.Given as goal

abbrev pub invariant-loop-n : goal.invariant-loop-n
invariant-loop-n l = Progress l.n (matched l.n (bit l.below) l.n) l.initial.self l.initial.plan (matched l.n (bit l.below) l.n)
    l.self l.plan

abbrev pub decreases-loop-n : goal.decreases-loop-n
decreases-loop-n l = unmatched l.n (partial_plan l.n l.self l.plan)
