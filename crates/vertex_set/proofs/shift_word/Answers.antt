use Rattle.vertex_set.proofs.Laws.Shift.{room_fits, shifted_is, shifting_out, shifting_room, shifting_more}
use Rattle.vertex_set.proofs.shift_word.Goals as goal

pub shifted-requires : goal.shifted-requires
shifted-requires c =
    room_fits 32 _ _ _ (shifting_room c.loop-left.invariant c.lowest_vertex-x.ensures)

pub overflow_sub-left : goal.overflow_sub-left
overflow_sub-left c =
    (shifting_out c.loop-left.invariant c.lowest_vertex-x.ensures).part

pub loop-left-preserved : goal.loop-left-preserved
loop-left-preserved c =
    shifting_more c.loop-left.invariant c.lowest_vertex-x.ensures _ (shifted_is _ _ _ _ c.shifted.ensures)
