use lib.ListN.{length}
use Rattle.arithmetic.specs.Table.{appended}
use Rattle.little_endian.proofs.Laws.Buffer.{Placing}
use Rattle.image_sections.specs.SectionBytes.{edge_entry}
use Rattle.image_sections.proofs.write.write_edges.Given as goal

abbrev pub invariant-loop-e : goal.invariant-loop-e
invariant-loop-e l = Placing 0 (length l.g.a.now) (λ i. appended i (edge_entry l.g.a.now l.g.b.now l.g.lengths.now)) l.initial.out l.e l.out
