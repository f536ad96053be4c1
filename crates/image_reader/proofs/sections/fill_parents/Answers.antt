use native.Mathlib.Omega.{arith}
use Rattle.image_reader.proofs.Laws.Fills.{parents_filled, parents_kept}
use Rattle.image_reader.proofs.sections.fill_parents.Goals as goal

-- `fill_parents` meets its contract.
pub fill_bytes-requires : goal.fill_bytes-requires
fill_bytes-requires c =
    let whole = c.requires.held.tree (λ z. omega arith) in
    (omega arith, λ e h. omega (arith, whole))

pub returns-then-extent-ne0 : goal.returns-then-extent-ne0
returns-then-extent-ne0 c = search parents_filled

pub returns-else-extent-ne0 : goal.returns-else-extent-ne0
returns-else-extent-ne0 c = search parents_kept
