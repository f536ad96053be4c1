use mathlib.Core.Path.{sym}
use native.Mathlib.Omega.{arith}
use borrow.Author.Count.{below_more}
use Rattle.tree_checks.proofs.Laws.TreeTests.{parents_hold, parents_fail}
use Rattle.tree_checks.proofs.checks.parents_ok.Goals as goal
use Rattle.tree_checks.proofs.checks.parents_ok.Goals.{then-y-x+else-x-root, else-y-x}

pub returns-then-root-n : goal.returns-then-root-n
returns-then-root-n c = parents_fail _ _ _ (λ t. omega (arith, t.root))

pub returns-then-parents-root : goal.returns-then-parents-root
returns-then-parents-root c = parents_fail _ _ _ (λ t. c.if-parents-root.true t.stay)

pub returns-then-y-n : goal.returns-then-y-n
returns-then-y-n c = parents_fail _ _ _ (λ t. omega (arith, t.into c.loop-x.x (omega arith)))

pub returns-then-x-root : goal.returns-then-x-root
returns-then-x-root c = parents_fail _ _ _ (λ t. c.if-x-root.true (t.alone c.loop-x.x (omega arith) c.if-y-x.true))

pub loop-x-preserved : goal.loop-x-preserved
loop-x-preserved c = below_more _ _ c.loop-x.invariant (c.if-y-n.false, λ e. elim c.if-y-x.branch [ then-y-x+else-x-root w ↦ w.if-x-root.false | else-y-x w ↦ absurd (w.if-y-x.false e) ])

pub returns : goal.returns
returns c =
    sym (parents_hold _ _ _ (record {
      root = c.if-root-n.false;
      into = λ x l. (c.loop-x.invariant x (omega arith)).0;
      stay = c.if-parents-root.false;
      alone = λ x l. (c.loop-x.invariant x (omega arith)).1;
    }))
