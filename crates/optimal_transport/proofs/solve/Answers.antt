use mathlib.Core.Path.{refl}
use native.Mathlib.Omega.{arith}
use Rattle.std.proofs.lemmas.Result.{err_from_is_err_and}
use Rattle.refusals.proofs.Laws.Outcome.{number_some}
use Rattle.transport_problem.proofs.Laws.TransportProblem.{problem_accepted}
use Rattle.optimal_transport.proofs.Laws.BestTree.{can_start, found_few, found_evaluable}
use Rattle.optimal_transport.proofs.Laws.Solve.{solve_refused, room_for, solved}
use Rattle.optimal_transport.proofs.solve.Goals as goal

pub returns-in_err-check : goal.returns-in_err-check
returns-in_err-check c =
    let handed = err_from_is_err_and c.from_residual.result c.from_residual.ensures.1 in
    rw (handed.1, handed.2) (solve_refused _ _ _ c.has_room-room.ensures c.in_err-check.ensures (number_some _))

pub best_tree-found-requires : goal.best_tree-found-requires
best_tree-found-requires c =
    let problem = problem_accepted c.in_ok-check.ensures refl in
    can_start problem (search) (search) (c.in_ok-check.ensures.tree refl) (omega arith) (omega arith)

pub evaluate_tree-value-requires : goal.evaluate_tree-value-requires
evaluate_tree-value-requires c =
    let problem = problem_accepted c.in_ok-check.ensures refl in
    let few = found_few problem c.best_tree-found.ensures in
    let room = room_for c.args.parents.now c.args.potential.now c.args.plan.now c.has_room-room.ensures c.in_ok-check.ensures refl in
    record { evaluable = found_evaluable problem c.best_tree-found.ensures (search) (search) (omega (arith, few)) room.1.1; room = omega (arith, few) }

pub write_parents-requires : goal.write_parents-requires
write_parents-requires c =
    let few = found_few (problem_accepted c.in_ok-check.ensures refl) c.best_tree-found.ensures in
    let room = room_for c.args.parents.now c.args.potential.now c.args.plan.now c.has_room-room.ensures c.in_ok-check.ensures refl in
    (few.0, omega (arith, few.1, room.0))

pub write_potential-requires : goal.write_potential-requires
write_potential-requires c =
    let few = found_few (problem_accepted c.in_ok-check.ensures refl) c.best_tree-found.ensures in
    let room = room_for c.args.parents.now c.args.potential.now c.args.plan.now c.has_room-room.ensures c.in_ok-check.ensures refl in
    record {
      n_in_bounds = (omega (arith, few, c.best_tree-found.ensures.potential_size), omega (arith, room.1.0));
      small = λ y l. c.best_tree-found.ensures.small y (omega arith);
    }

pub returns : goal.returns
returns c =
    solved _ _ _ c.has_room-room.ensures c.in_ok-check.ensures refl c.best_tree-found.ensures
    (c.evaluate_tree-value.ensures.figures _ _ _) c.write_parents.ensures c.write_potential.ensures
