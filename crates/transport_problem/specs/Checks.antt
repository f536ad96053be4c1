-- Document 01, "What is refused": checks 1 to 7, of a graph and two paintings.
use Rattle.std.specs.Prelude.{ℕ, Bool, ◌&&◌, List, ◌++◌, length, eqb}
use Rattle.arithmetic.specs.Refusal.{Check}
use Rattle.arithmetic.specs.Table.{at}
use Rattle.graph.specs.Graph.{Graph}
use Rattle.graph.specs.Checks.{graph_checks}
use Rattle.measures.specs.Checks.{measure_checks}

-- 2: "painting not n long"; `tables` is what a call says of its other tables
unfoldable pub measures_long : ℕ → List ℕ → List ℕ → Bool → Bool
measures_long n mu nu tables = eqb (length mu) n && (eqb (length nu) n && tables)

-- 1 to 7
abbrev pub problem_checks : Graph → List ℕ → List ℕ → Bool → List Check
problem_checks g mu nu tables = graph_checks g (measures_long g.n mu nu tables) ++ measure_checks g.n (at mu) (at nu)
