use mathlib.Core.Path.{refl}
use native.Mathlib.Omega.{arith}
use Rattle.std.proofs.lemmas.Result.{err_from_is_err_and}
use Rattle.refusals.proofs.Laws.Outcome.{number_some}
use Rattle.given_tree.proofs.Laws.Given.{given_accepted}
use Rattle.optimality_test.proofs.Laws.OptimalityTest.{test_refused, given_can, tested}
use Rattle.optimality_test.proofs.is_optimal.Goals as goal

pub returns-in_err-check : goal.returns-in_err-check
returns-in_err-check c =
    let handed = err_from_is_err_and c.from_residual.result c.from_residual.ensures.1 in
    rw (handed.1, handed.2) (test_refused c.in_err-check.ensures (number_some _))

pub cost_of-cost-requires : goal.cost_of-cost-requires
cost_of-cost-requires c = given_can c.in_ok-check.ensures c.new-tree.ensures (omega arith)

pub least_cost-least-requires : goal.least_cost-least-requires
least_cost-least-requires c =
    ((given_accepted c.in_ok-check.ensures refl).problem, (c.in_ok-check.ensures.tree refl, (omega arith, omega arith)))

pub returns : goal.returns
returns c = tested c.in_ok-check.ensures c.new-tree.ensures c.cost_of-cost.ensures c.least_cost-least.ensures
