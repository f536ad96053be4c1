use Prim.Native.Nat.{◌+◌, ◌-◌, ◌*◌}
use Rattle.arithmetic.specs.Table.{tab}
use Rattle.little_endian.specs.LittleEndian.{four}
use Rattle.little_endian.proofs.Laws.Buffer.{Placing}
use Rattle.little_endian.proofs.read.fill_fours.Given as goal

abbrev pub invariant-loop-e : goal.invariant-loop-e
invariant-loop-e l = Placing 0 l.count (λ i. tab i (λ e. four l.bytes (l.from + 4 * e))) l.initial.out l.e l.out

abbrev pub decreases-loop-e : goal.decreases-loop-e
decreases-loop-e l = l.count - l.e
