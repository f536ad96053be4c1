use Rattle.first_basis.proofs.Laws.FirstBasis.{can_measure, can_weigh, has_potential, first-basis}
use Rattle.first_basis.proofs.fill_basis.Goals as goal

-- `fill_basis` meets its contract: each step leaves what the next requires, and together they leave a basis. Assumes nothing.
pub lengths_above-requires : goal.lengths_above-requires
lengths_above-requires c = can_measure c.requires.0.can c.requires.1

pub fill_subtrees-requires : goal.fill_subtrees-requires
fill_subtrees-requires c = can_weigh c.requires.0.can c.requires.1

pub potential-requires : goal.potential-requires
potential-requires c =
    (has_potential c.requires.0.can c.requires.1 c.lengths_above.ensures _ _, c.requires.1.potential)

pub returns-clause-basis : goal.returns-clause-basis
returns-clause-basis c = λ a b can.
    let e = c.fill_subtrees.ensures in
    first-basis can c.requires.1 c.lengths_above.ensures (e.first, (e.second, e.bits)) c.potential.ensures
