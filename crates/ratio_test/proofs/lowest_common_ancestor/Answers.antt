use native.Mathlib.Omega.{arith}
use mathlib.Core.Path.{sym, ◌∙◌}
use Rattle.ratio_test.proofs.Laws.CommonAncestor.{meeting_none, meeting_more, meeting_less, meeting_end}
use Rattle.ratio_test.proofs.lowest_common_ancestor.Goals as goal

pub loop-x-init : goal.loop-x-init
loop-x-init c = meeting_none c.requires

pub overflow_cast-x : goal.overflow_cast-x
overflow_cast-x c =
    omega (arith, c.requires.tree.into _ c.loop-x.invariant.low)

pub loop-x-smaller : goal.loop-x-smaller
loop-x-smaller c =
    meeting_less c.requires c.loop-x.invariant (sym c.in_subtree.ensures ∙ c.loop-x-test.true)

pub loop-x-preserved : goal.loop-x-preserved
loop-x-preserved c =
    meeting_more c.requires c.loop-x.invariant (sym c.in_subtree.ensures ∙ c.loop-x-test.true)

pub returns : goal.returns
returns c =
    meeting_end c.requires c.loop-x.invariant (sym c.in_subtree.ensures ∙ c.loop-x-test.false)
