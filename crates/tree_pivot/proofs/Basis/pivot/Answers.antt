use native.Mathlib.Omega.{arith}
use Rattle.tree_pivot.proofs.Laws.PivotBasis.{cut, can_move_supply, can_move_demand, can_move_masks, can_shift_potential, cheaper_basis}
use Rattle.tree_pivot.proofs.Basis.pivot.Goals as goal

-- `pivot` meets its contract: each step leaves what the next requires, and together they leave a cheaper basis. Assumes nothing.
pub hang-requires : goal.hang-requires
hang-requires c =
    let h = c.requires.holds in
    (can_move_supply h.0 h.1, (can_move_demand h.0 h.1, can_move_masks h.0 h.1))

pub reverse_path-requires : goal.reverse_path-requires
reverse_path-requires c =
    let can = c.requires.holds.0 in
    (can.basis.network.few, cut can, can.basis.places.parents, can.basis.places.above)

pub shift_word-requires : goal.shift_word-requires
shift_word-requires c =
    can_shift_potential c.requires.holds.0 c.reverse_path.ensures c.hang.ensures.1.1 _ (omega (arith, c.violation-d.ensures))

pub returns : goal.returns
returns c = λ lower upper lengths m v can.
    let t = c.hang.ensures in
    cheaper_basis can c.reverse_path.ensures t.1.1 t.0 t.1.0 c.violation-d.ensures c.shift_word.ensures
