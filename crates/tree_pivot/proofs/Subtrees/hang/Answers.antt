use Rattle.tree_pivot.proofs.Laws.PivotTotals.{can_take, can_give, can_complement, moved_totals}
use Rattle.tree_pivot.proofs.Subtrees.hang.Goals as goal

pub shift_path-requires : goal.shift_path-requires
shift_path-requires c =
    let is = c.of_vertex-total.ensures in
    (can_take c.requires.0 is.0, (can_take c.requires.1.0 is.1.0, can_take c.requires.1.1 is.1.1))

pub shift_path-requires-2 : goal.shift_path-requires-2
shift_path-requires-2 c =
    let is = c.of_vertex-total.ensures in
    let t = c.shift_path.ensures in
    (can_give c.requires.0 is.0 t.0, (can_give c.requires.1.0 is.1.0 t.1.0, can_give c.requires.1.1 is.1.1 t.1.1))

pub complement_path-requires : goal.complement_path-requires
complement_path-requires c =
    let is = c.of_vertex-total.ensures in
    let t = c.shift_path.ensures in
    let g = c.shift_path-2.ensures in (
      can_complement c.requires.0 is.0 t.0 g.0,
      (can_complement c.requires.1.0 is.1.0 t.1.0 g.1.0, can_complement c.requires.1.1 is.1.1 t.1.1 g.1.1),
    )

pub returns : goal.returns
returns c =
    let is = c.of_vertex-total.ensures in
    let t = c.shift_path.ensures in
    let g = c.shift_path-2.ensures in
    let r = c.complement_path.ensures in (
      moved_totals c.requires.0 is.0 t.0 g.0 r.0,
      (moved_totals c.requires.1.0 is.1.0 t.1.0 g.1.0 r.1.0, moved_totals c.requires.1.1 is.1.1 t.1.1 g.1.1 r.1.1),
    )
