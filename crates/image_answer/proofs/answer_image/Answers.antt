use native.Mathlib.Omega.{arith}
use Rattle.std.proofs.lemmas.Result.{err_from_is_err_and}
use Rattle.image_reader.proofs.Laws.Tables.{n_most, m_most}
use Rattle.image_answer.proofs.Laws.Answer.{not_read, plan_fits, too_short, fitting}
use Rattle.image_answer.proofs.answer_image.Goals as goal

-- `answer_image` meets its contract.
pub returns-in_err-found : goal.returns-in_err-found
returns-in_err-found c =
    let handed = err_from_is_err_and c.from_residual.result c.from_residual.ensures.1 in
    rw (handed.1, handed.2)
    (not_read c.in_err-found.ensures (record { lower = omega arith; upper = omega arith; lengths = omega arith; mu = omega arith; nu = omega arith; parents = omega arith }))

pub record_size-requires : goal.record_size-requires
record_size-requires c = n_most c.in_ok-found.ensures

pub returns-then-record_size-room : goal.returns-then-record_size-room
returns-then-record_size-room c = too_short c.in_ok-found.ensures (omega arith)

pub answer_tables-requires : goal.answer_tables-requires
answer_tables-requires c =
    let r = c.in_ok-found.ensures in omega (arith, n_most r, m_most r, plan_fits r c.requires)

pub returns : goal.returns
returns c =
    let r = c.in_ok-found.ensures in
    fitting r (omega (arith, c.record_size.ensures, c.if-record_size-room.false)) (c.answer_tables.ensures _ _ r)
