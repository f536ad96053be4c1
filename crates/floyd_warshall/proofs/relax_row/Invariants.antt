use Rattle.arithmetic.specs.Steps.Table.{cell}
use Rattle.floyd_warshall.proofs.Laws.FloydWarshall.{Fills, row_to}
use Rattle.floyd_warshall.proofs.relax_row.Given as goal

abbrev pub invariant-loop-j : goal.invariant-loop-j
invariant-loop-j l = Fills l.n (row_to l.k l.i l.j (cell l.n l.initial.out)) l.initial.out l.out
