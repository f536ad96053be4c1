-- "also offered over a lent list of edge records of two ends and a length, with the same answers"
use Rattle.std.specs.Prelude.{ℕ, List, ◌++◌, get_or, drop, replicate}
use Rattle.distances.specs.declared.records.EdgeRecord.{EdgeRecord}
use Rattle.distances.specs.declared.records.Columns.{Columns}
use Rattle.arithmetic.specs.Table.{tab}
use Rattle.distances.specs.Records.{lower_of, upper_of, length_of}

abbrev pub no_edge : EdgeRecord
no_edge = record { a = 0; b = 0; length = 0 }

-- one field of the first m edges, in a table of 512 places
abbrev pub column : (EdgeRecord → ℕ) → List EdgeRecord → ℕ → List ℕ
column f es m = tab m (λ i. f (get_or es i no_edge)) ++ drop m (replicate 512 0)

abbrev pub columns_of : List EdgeRecord → ℕ → Columns
columns_of es m = record { a = column lower_of es m; b = column upper_of es m; lengths = column length_of es m }
