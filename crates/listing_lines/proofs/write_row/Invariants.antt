use Prim.Native.Nat.{◌≤◌, ◌+◌, ◌*◌}
use Rattle.arithmetic.specs.Table.{at}
use Rattle.decimal_text.specs.Steps.Wrote.{Wrote}
use Rattle.listing_lines.specs.Lines.{row_lines}
use Rattle.listing_lines.proofs.write_row.Given as goal

abbrev pub invariant-loop-j : goal.invariant-loop-j
invariant-loop-j l = (l.end ≤ l.from + 17 * l.j) × Wrote l.from (row_lines (at l.row) l.i l.j) l.initial.out l.out l.end
