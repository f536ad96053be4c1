use mathlib.Core.Path.{sym, ◌∙◌}
use native.Mathlib.Omega.{arith}
use Rattle.arithmetic.proofs.Laws.Bools.{all_none, all_more, all_fails, all_end}
use Rattle.directory.proofs.pairs_ok.Goals as goal

pub loop-t-init : goal.loop-t-init
loop-t-init c = (omega arith, all_none _)

pub returns-then-not-pair_ok : goal.returns-then-not-pair_ok
returns-then-not-pair_ok c =
    sym (all_fails _ _ c.loop-t.t c.loop-t-test.true (sym c.pair_ok.ensures ∙ c.if-not-pair_ok.true))

pub loop-t-preserved : goal.loop-t-preserved
loop-t-preserved c =
    (omega arith, all_more _ _ c.loop-t.invariant.1 (sym c.pair_ok.ensures ∙ c.if-not-pair_ok.false))

pub returns : goal.returns
returns c = all_end _ _ _ c.loop-t.invariant.0 c.loop-t-test.false c.loop-t.invariant.1
