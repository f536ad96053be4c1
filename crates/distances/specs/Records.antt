-- "also offered over a lent list of edge records of two ends and a length, with the same answers"
use Rattle.std.specs.Prelude.{ℕ, List, map}
use Rattle.distances.specs.declared.records.EdgeRecord.{EdgeRecord}
use Rattle.graph.specs.Graph.{Graph, graph}

-- the fields
abbrev pub lower_of : EdgeRecord → ℕ
lower_of e = e.a

abbrev pub upper_of : EdgeRecord → ℕ
upper_of e = e.b

abbrev pub length_of : EdgeRecord → ℕ
length_of e = e.length

-- the graph of the three lists of the records' fields
abbrev pub graph_of_records : ℕ → List EdgeRecord → Graph
graph_of_records n es = graph n (map lower_of es) (map upper_of es) (map length_of es)
