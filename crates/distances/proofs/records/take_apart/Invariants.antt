use Rattle.std.proofs.Common.{◌≡◌}
use Rattle.distances.specs.Records.{lower_of, upper_of, length_of}
use Rattle.distances.specs.Steps.Records.{column}
use Rattle.distances.proofs.records.take_apart.Given as goal

-- The columns of the first i edges are in the three tables.
abbrev pub invariant-loop-i : goal.invariant-loop-i
invariant-loop-i l =
    (l.columns.a ≡ column lower_of l.edges l.i) × (l.columns.b ≡ column upper_of l.edges l.i) × (l.columns.lengths ≡ column length_of l.edges l.i)
