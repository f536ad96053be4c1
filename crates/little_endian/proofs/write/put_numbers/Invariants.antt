use Rattle.arithmetic.specs.Table.{at}
use Rattle.little_endian.specs.LittleEndian.{fields}
use Rattle.little_endian.proofs.Laws.Buffer.{Placing}
use Rattle.little_endian.proofs.write.put_numbers.Given as goal

abbrev pub invariant-loop-i : goal.invariant-loop-i
invariant-loop-i g l = Placing 0 l.n (λ i. fields g.row.N i (at l.numbers)) l.initial.out l.i l.out
