use mathlib.Core.Path.{refl, ◌∙◌}
use Rattle.refusals.proofs.Laws.Outcome.{number_some, handed_number}
use Rattle.distances.proofs.Laws.DistanceCases.{number, not_done, enough, all_done}
use Rattle.distances.proofs.distances.Goals as goal

-- Refused, the table is as it was lent; accepted, it is filled.
pub returns-in_err-check : goal.returns-in_err-check
returns-in_err-check c =
    let r = c.square_fits-room.ensures in
    let w = c.in_err-check.ensures.number in
    (handed_number _ _ c.from_residual.ensures.1 ∙ number _ _ _ _ r w, not_done _ _ _ _ r w (number_some _))

pub fill_distances-requires : goal.fill_distances-requires
fill_distances-requires c =
    let a = enough _ c.args.out.now _ _ c.square_fits-room.ensures c.in_ok-check.ensures.number refl in
    (a.0.vertices, a.0.lists, a.0.edges, a.0.lengths, a.1)

pub returns : goal.returns
returns c =
    let r = c.square_fits-room.ensures in
    let w = c.in_ok-check.ensures.number in
    (number _ _ _ _ r w, all_done _ _ _ _ r w refl _ c.fill_distances.ensures)
