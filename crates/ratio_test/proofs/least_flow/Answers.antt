use mathlib.Core.Path.{sym, ◌∙◌}
use mathlib.Core.Bool.{true≢false}
use Rattle.tree_pivot.proofs.Laws.PathWalk.{path_none, path_more, path_less}
use Rattle.ratio_test.proofs.Laws.Leaving.{flow_none, least_step, least_stay}
use Rattle.ratio_test.proofs.least_flow.Goals as goal
use Rattle.ratio_test.proofs.least_flow.Goals.{then-is_less, else-is_less}

pub loop-x-init : goal.loop-x-init
loop-x-init c = (path_none c.requires.1, flow_none c.requires.1)

pub loop-x-smaller : goal.loop-x-smaller
loop-x-smaller c =
    path_less c.requires.1 c.loop-x.invariant.0 c.loop-x-test.true

pub loop-x-preserved : goal.loop-x-preserved
loop-x-preserved c =
    let can = c.requires.1 in
    let on = c.loop-x.invariant.0 in
    let go = c.loop-x-test.true in
    let up = c.flow_up-up.ensures in
    let least = c.loop-x.invariant.1 in (
      path_more can on go,
      elim c.if-is_less.branch [
        | then-is_less w ↦ rw w.least-is (least_step can on go _ _ _ _ up least (c.is_less.ensures.0 w.if-is_less.true))
        | else-is_less w ↦
            rw w.least-is (least_stay can on go _ _ _ _ up least (λ l. true≢false (sym (c.is_less.ensures.1 l) ∙ w.if-is_less.false)))
      ],
    )
