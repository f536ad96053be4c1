use mathlib.Core.Path.{◌≡◌, sym}
use native.Mathlib.Omega.{arith}
use mathlib.Core.Logic.{inl, inr}
use Rattle.arithmetic.proofs.Laws.Bools.{all_none}
use Rattle.tree_checks.proofs.Laws.Edges.{mark_more, mark_fails}
use Rattle.tree_checks.proofs.checks.all_joined.Goals as goal
use Rattle.tree_checks.proofs.checks.all_joined.Goals.{then-x-root+else-not-joined-x, else-x-root}

pub loop-x-init : goal.loop-x-init
loop-x-init c = all_none _

pub returns-then-not-joined-x : goal.returns-then-not-joined-x
returns-then-not-joined-x c = mark_fails _ c.args.joined.now _ _ (omega arith) c.if-x-root.true (c.if-not-joined-x.true)

pub loop-x-preserved : goal.loop-x-preserved
loop-x-preserved c = mark_more _ c.args.joined.now _ c.loop-x.invariant (elim c.if-x-root.branch [ then-x-root+else-not-joined-x w ↦ inr w.if-not-joined-x.false | else-x-root w ↦ inl w.if-x-root.false ])

pub returns : goal.returns
returns c = let e : c.loop-x.x ≡ c.args.n = omega arith in sym (rw e at c.loop-x.invariant)
