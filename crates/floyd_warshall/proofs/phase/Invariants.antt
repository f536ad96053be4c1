use Rattle.arithmetic.specs.Steps.Table.{cell}
use Rattle.floyd_warshall.proofs.Laws.FloydWarshall.{Fills, phase_to}
use Rattle.floyd_warshall.proofs.phase.Given as goal

abbrev pub invariant-loop-i : goal.invariant-loop-i
invariant-loop-i l = Fills l.n (phase_to l.k l.i (cell l.n l.initial.out)) l.initial.out l.out
