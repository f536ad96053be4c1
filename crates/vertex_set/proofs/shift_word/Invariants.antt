use Rattle.vertex_set.proofs.Laws.Shift.{ShiftingWord}
use Rattle.vertex_set.proofs.shift_word.Given as goal

abbrev pub invariant-loop-left : goal.invariant-loop-left
invariant-loop-left l = ShiftingWord l.n l.word l.rises l.d l.initial.table l.table l.left

abbrev pub decreases-loop-left : goal.decreases-loop-left
decreases-loop-left l = l.left
