use Rattle.std.proofs.Common.{◌≡◌, sym, arith, mul-le-mul}
use Rattle.arithmetic.specs.Sum.{sum}
use Rattle.arithmetic.specs.Steps.Table.{cell}
use Rattle.arithmetic.proofs.Laws.Sum.{sum-nil, sum_step, sum-le-mul}
use Rattle.plan_rule.specs.Plan.{moves}
use Rattle.plan_moves.specs.Steps.Count.{move_at}
use Rattle.plan_moves.proofs.Laws.Counting.{row_few}
use Rattle.plan_moves.proofs.count_moves.Goals as goal

pub loop-i-init : goal.loop-i-init
loop-i-init c = sym (sum-nil (λ i. sum c.args.n (move_at (cell c.args.n c.args.plan.now) i)))

pub overflow_add-count : goal.overflow_add-count
overflow_add-count c =
    let t = cell c.args.n c.args.plan.now in
    omega (
      arith,
      row_few t c.loop-i.i c.args.n,
      sum-le-mul c.loop-i.i c.args.n (λ i. sum c.args.n (move_at t i)) (λ i _. row_few t i c.args.n),
      mul-le-mul c.loop-i.auto.i-end c.requires.0,
    )

pub loop-i-preserved : goal.loop-i-preserved
loop-i-preserved c =
    omega (arith, c.count_row-count.ensures, sum_step c.loop-i.i (λ i. sum c.args.n (move_at (cell c.args.n c.args.plan.now) i)))

pub returns : goal.returns
unfolding moves move_at
returns c = let e : c.loop-i.i ≡ c.args.n = omega arith in rw e at c.loop-i.invariant
