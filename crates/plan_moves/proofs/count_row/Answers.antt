use Rattle.std.proofs.Common.{◌≡◌, sym, ◌+◌, arith}
use Rattle.arithmetic.specs.Steps.Table.{cell}
use Rattle.arithmetic.proofs.Laws.Sum.{sum-nil, sum_step}
use Rattle.plan_moves.specs.Steps.Count.{positive_at}
use Rattle.plan_moves.proofs.Laws.Counting.{sent_few, counted, row_moves}
use Rattle.plan_moves.proofs.count_row.Goals as goal

pub loop-j-init : goal.loop-j-init
loop-j-init c = sym (sum-nil (positive_at (cell c.args.n c.args.plan.now) c.args.i))

pub overflow_add-count : goal.overflow_add-count
overflow_add-count c =
    let t = cell c.args.n c.args.plan.now in
    let i = c.args.i in
    let j = c.loop-j.j in
    omega (arith, sent_few t i (j + 1), sum_step j (positive_at t i), counted t i j c.is_positive.result c.is_positive.ensures)

pub loop-j-preserved : goal.loop-j-preserved
loop-j-preserved c =
    let t = cell c.args.n c.args.plan.now in
    let i = c.args.i in
    let j = c.loop-j.j in
    omega (arith, sum_step j (positive_at t i), counted t i j c.is_positive.result c.is_positive.ensures)

pub overflow_sub-result : goal.overflow_sub-result
overflow_sub-result c =
    let t = cell c.args.n c.args.plan.now in
    let i = c.args.i in
    let end : c.loop-j.j ≡ c.args.n = omega arith in
    omega (arith, row_moves c.args.n t i _ _ c.requires.1 (rw end at c.loop-j.invariant) (counted t i i _ c.is_positive-own.ensures))

pub returns : goal.returns
returns c =
    let t = cell c.args.n c.args.plan.now in
    let i = c.args.i in
    let end : c.loop-j.j ≡ c.args.n = omega arith in
    omega (arith, row_moves c.args.n t i _ _ c.requires.1 (rw end at c.loop-j.invariant) (counted t i i _ c.is_positive-own.ensures))
