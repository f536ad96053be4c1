use native.Mathlib.Omega.{arith}
use Rattle.image_answer.proofs.Laws.Answer.{root_below, answer_few, plan-room, potentials_long}
use Rattle.weight_mover.proofs.Laws.Run.{run_room, run_done}
use Rattle.weight_mover.proofs.run.Goals as goal

-- `run` meets its contract.
pub write_record-requires : goal.write_record-requires
write_record-requires c =
    let a = c.in_ok-found.ensures in
    let few = answer_few a in
    (few.0, root_below a, omega (arith, potentials_long a (omega arith)), omega (arith, plan-room a c.requires), run_room c.args.buffer.now a)

pub returns : goal.returns
returns c = run_done _ c.in_ok-found.ensures c.write_record.ensures
