-- The distance call: its refusal number and its table.
use Rattle.std.specs.Prelude.{ℕ, ◌*◌, List, length, leb}
use Rattle.arithmetic.specs.Table.{matrix, written}
use Rattle.arithmetic.specs.Refusal.{refusal}
use Rattle.graph.specs.Graph.{Graph}
use Rattle.graph.specs.Distance.{distance}
use Rattle.graph.specs.Checks.{graph_checks}

-- "The distance call stops after 5"; its answer table has n × n places
unfoldable pub distances_refusal : Graph → List ℕ → ℕ
distances_refusal g out = refusal (graph_checks g (leb (g.n * g.n) (length out)))

-- "fills n × n places with d(i, j), row i from place i × n"
unfoldable pub distances_table : Graph → List ℕ → List ℕ
distances_table g out = written (distances_refusal g out) (matrix g.n (distance g)) out
