use mathlib.Core.Path.{◌≡◌}
use lib.ListN.{length}
use Rattle.arithmetic.specs.Table.{at, appended}
use Rattle.little_endian.proofs.Laws.Buffer.{Placing}
use Rattle.packed_image.specs.Packed.{start as start_of, pair}
use Rattle.packed_image.proofs.write_pairs.Given as goal

abbrev pub invariant-loop-t : goal.invariant-loop-t
invariant-loop-t l = Placing 0 (length l.lengths) (λ i. appended i (pair (length l.lengths) (at l.lengths))) l.initial.out l.t l.out × (l.start ≡ start_of (length l.lengths) (at l.lengths) l.t)
