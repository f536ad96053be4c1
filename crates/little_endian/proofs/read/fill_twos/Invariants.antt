use Prim.Native.Nat.{◌+◌, ◌-◌, ◌*◌}
use Rattle.arithmetic.specs.Table.{tab}
use Rattle.little_endian.specs.LittleEndian.{two}
use Rattle.little_endian.proofs.Laws.Buffer.{Placing}
use Rattle.little_endian.proofs.read.fill_twos.Given as goal

abbrev pub invariant-loop-e : goal.invariant-loop-e
invariant-loop-e l = Placing 0 l.count (λ i. tab i (λ e. two l.bytes (l.from + 4 * e))) l.initial.out l.e l.out

abbrev pub decreases-loop-e : goal.decreases-loop-e
decreases-loop-e l = l.count - l.e
