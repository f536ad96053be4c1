use lib.ListN.{get_or}
use lib.IntN.{pos}
use Rattle.little_endian.specs.LittleEndian.{fields, signed}
use Rattle.little_endian.proofs.Laws.Buffer.{Placing}
use Rattle.host_record.proofs.write_potential.Given as goal

abbrev pub invariant-loop-i : goal.invariant-loop-i
invariant-loop-i l = Placing 0 l.n (λ i. fields 4 i (λ y. signed (get_or l.potential y (pos 0)))) l.initial.out l.i l.out
