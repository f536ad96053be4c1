use mathlib.Core.Path.{◌∙◌}
use native.Mathlib.Omega.{arith}
use Rattle.tree_checks.proofs.Laws.Doubling.{ahead_first, ahead_end}
use Rattle.tree_checks.proofs.chains.chains_reach.Goals as goal

pub loop-steps-init : goal.loop-steps-init
loop-steps-init c =
    let f = c.first_steps-ahead in
    (omega arith, ahead_first c.requires.tree f.result (omega (arith, f.ensures.0)) f.ensures.1)

pub loop-steps-preserved : goal.loop-steps-preserved
loop-steps-preserved c =
    (omega arith, c.double_steps.ensures _ _ c.loop-steps.invariant.1)

pub returns : goal.returns
returns c =
    c.all_equal.ensures ∙ ahead_end c.requires.tree _ (omega arith) c.loop-steps.invariant.1
