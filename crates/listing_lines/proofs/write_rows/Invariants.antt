use Prim.Native.Nat.{◌≤◌, ◌+◌, ◌*◌}
use Rattle.arithmetic.specs.Steps.Table.{cell}
use Rattle.decimal_text.specs.Steps.Wrote.{Wrote}
use Rattle.listing_lines.specs.Lines.{plan_lines}
use Rattle.listing_lines.proofs.write_rows.Given as goal

abbrev pub invariant-loop-i : goal.invariant-loop-i
invariant-loop-i l = (l.end ≤ l.from + 17 * (l.n * l.i)) × Wrote l.from (plan_lines (cell l.n l.plan) l.n l.i) l.initial.out l.out l.end
