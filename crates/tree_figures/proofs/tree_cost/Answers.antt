use native.Mathlib.Omega.{arith}
use Prim.Native.Nat.{◌+◌, ◌*◌}
use mathlib.Core.Path.{◌≡◌, ◌∙◌}
use Rattle.arithmetic.specs.Table.{at}
use Rattle.tree_figures.specs.Steps.Tables.{cost_from}
use Rattle.tree_figures.proofs.Laws.Figure.{cost_none, cost_root, cost_edge, costs-lt}
use Rattle.tree_figures.proofs.tree_cost.Goals as goal
use Rattle.tree_figures.proofs.tree_cost.Goals.{then-x-root, else-x-root}

pub loop-x-init : goal.loop-x-init
loop-x-init c = cost_none _ _ _ _

pub overflow_add-cost : goal.overflow_add-cost
overflow_add-cost c = let l = c.loop-x in
    let e : l.cost + at c.args.above.now l.x * c.gap.result ≡ cost_from (l.x + 1) c.args.root (at c.args.above.now) (at c.args.supply.now) (at c.args.demand.now)
    = cost_edge _ _ _ _ _ _ _ l.invariant c.if-x-root.true c.gap.ensures in
    omega (arith, e, costs-lt (omega arith) c.requires.lengths _ _ c.requires.masses.0 c.requires.masses.1 (l.x + 1) (omega arith))

pub loop-x-preserved : goal.loop-x-preserved
loop-x-preserved c = elim c.if-x-root.branch [
  | then-x-root w ↦ w.cost-is ∙ cost_edge _ _ _ _ _ _ _ c.loop-x.invariant w.if-x-root.true w.gap.ensures
  | else-x-root w ↦ w.cost-is ∙ cost_root _ _ _ _ _ _ c.loop-x.invariant w.if-x-root.false
]

pub returns : goal.returns
returns c = let e : c.loop-x.x ≡ c.args.n = omega arith in rw e at c.loop-x.invariant
