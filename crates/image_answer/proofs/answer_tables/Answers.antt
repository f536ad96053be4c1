use mathlib.Core.Path.{refl, ap}
use native.Mathlib.Omega.{arith}
use Rattle.std.proofs.lemmas.Result.{err_from_is_err_and}
use Rattle.image_reader.specs.Reading.{tree_mark}
use Rattle.image_answer.proofs.Laws.Told.{tell_made}
use Rattle.image_answer.proofs.Laws.Answer.{evaluated_answer, solved_answer}
use Rattle.image_answer.proofs.answer_tables.Goals as goal

-- `answer_tables` meets its contract.
pub returns-in_err-best : goal.returns-in_err-best
returns-in_err-best c s t read =
    let handed = err_from_is_err_and c.from_residual.result c.from_residual.ensures.1 in
    rw (handed.1, handed.2)
    (solved_answer read _ (omega arith) c.requires.7 (ap tree_mark c.in_default.is) c.requires.6 c.in_err-best.ensures refl tt)

pub returns-in_default : goal.returns-in_default
returns-in_default c s t read =
    solved_answer read _ (omega arith) c.requires.7 (ap tree_mark c.in_default.is) c.requires.6 c.in_ok-best.ensures refl
    (tell_made c.solve.new.parents c.new.ensures)

pub returns-in_err-value : goal.returns-in_err-value
returns-in_err-value c s t read =
    let handed = err_from_is_err_and c.from_residual-in_err-value.result c.from_residual-in_err-value.ensures.1 in
    let found = rw c.in-Some.is at read in
    rw (handed.1, handed.2)
    (evaluated_answer found _ (omega arith) c.requires.7 (λ z. omega arith) (omega arith) c.in_err-value.ensures refl tt)

pub returns : goal.returns
returns c s t read =
    let found = rw c.in-Some.is at read in
    evaluated_answer found _ (omega arith) c.requires.7 (λ z. omega arith) (omega arith) c.in_ok-value.ensures refl
    (tell_made c.args.parents.now c.new-2.ensures)
