use Rattle.arithmetic.specs.Steps.Table.{cell}
use Rattle.floyd_warshall.proofs.Laws.FloydWarshall.{Fills, diagonal_to}
use Rattle.floyd_warshall.proofs.zero_diagonal.Given as goal

abbrev pub invariant-loop-i : goal.invariant-loop-i
invariant-loop-i l = Fills l.n (diagonal_to l.i (cell l.n l.initial.out)) l.initial.out l.out
