use Rattle.arithmetic.specs.Table.{at}
use Rattle.little_endian.specs.LittleEndian.{fields}
use Rattle.little_endian.proofs.Laws.Buffer.{Placing}
use Rattle.image_sections.proofs.write.write_amounts.Given as goal

abbrev pub invariant-loop-i : goal.invariant-loop-i
invariant-loop-i l = Placing 0 l.n (λ i. fields 4 i (at l.amounts)) l.initial.out l.i l.out
