-- Document 01, "Image": the sections, byte for byte.
use Rattle.std.specs.Prelude.{ℕ, List, ◌++◌, length}
use Rattle.arithmetic.specs.Table.{at, tab, appended}
use Rattle.little_endian.specs.LittleEndian.{byte_of, fields}

-- "edges (m entries: a, b one byte each, length two)"
abbrev pub edge_entry : (a b lengths : List ℕ) → ℕ → List ℕ
edge_entry a b lengths e = tab 1 (byte_of (at a e)) ++ (tab 1 (byte_of (at b e)) ++ tab 2 (byte_of (at lengths e)))

abbrev pub edge_bytes : (a b lengths : List ℕ) → List ℕ
edge_bytes a b lengths = appended (length a) (edge_entry a b lengths)

-- "mu, nu (n amounts, four bytes each)"
abbrev pub amount_bytes : ℕ → List ℕ → List ℕ
amount_bytes n amounts = fields 4 n (at amounts)

-- "root and n parents, one byte each"
abbrev pub tree_bytes : ℕ → ℕ → List ℕ → List ℕ
tree_bytes n root parents = tab 1 (byte_of root) ++ fields 1 n (at parents)
