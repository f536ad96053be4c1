use mathlib.Core.Path.{refl}
use native.Mathlib.Omega.{arith}
use Rattle.std.proofs.lemmas.Result.{err_from_is_err_and}
use Rattle.refusals.proofs.Laws.Outcome.{number_some}
use Rattle.given_tree.proofs.Laws.Given.{given_answers}
use Rattle.tree_evaluation.proofs.Laws.Evaluate.{evaluate_refused, evaluable, evaluate_asked, evaluate_done}
use Rattle.tree_evaluation.proofs.evaluate.Goals as goal

pub returns-in_err-check : goal.returns-in_err-check
returns-in_err-check c =
    let handed = err_from_is_err_and c.from_residual.result c.from_residual.ensures.1 in
    rw (handed.1, handed.2) (evaluate_refused _ _ _ (given_answers c.has_room-room.ensures c.in_err-check.ensures) (number_some _))

pub evaluate_tree-value-requires-clause-evaluable : goal.evaluate_tree-value-requires-clause-evaluable
evaluate_tree-value-requires-clause-evaluable c =
    evaluable _ _ _ (given_answers c.has_room-room.ensures c.in_ok-check.ensures) c.new-tree.ensures (omega arith)

pub evaluate_tree-value-requires-clause-room : goal.evaluate_tree-value-requires-clause-room
evaluate_tree-value-requires-clause-room c =
    (evaluable _ _ _ (given_answers c.has_room-room.ensures c.in_ok-check.ensures) c.new-tree.ensures (omega arith)).few

pub write_potential-requires : goal.write_potential-requires
write_potential-requires c =
    let a = evaluate_asked _ _ _ (given_answers c.has_room-room.ensures c.in_ok-check.ensures) c.new-tree.ensures
    c.evaluate_tree-value.ensures.words (c.evaluate_tree-value.ensures.figures _ _ _) (omega arith) (omega arith) in
    record { n_bound = a.0; long = a.1.0; lengths = a.1.1 }

pub returns : goal.returns
returns c =
    evaluate_done _ _ _ (given_answers c.has_room-room.ensures c.in_ok-check.ensures) c.new-tree.ensures
    c.evaluate_tree-value.ensures.words (c.evaluate_tree-value.ensures.figures _ _ _) refl c.write_potential.ensures
