-- Document 01, "Host record", byte for byte.
use Rattle.std.specs.Prelude.{ℕ, ◌+◌, ◌*◌, List, ◌++◌, ℤ}
use Rattle.arithmetic.specs.Table.{tab}
use Rattle.little_endian.specs.LittleEndian.{byte_of, fields, signed}

-- "cost (8 bytes), moves (4), root and n parents (n + 1), potential from byte 13 + n (4 each, signed), plan from byte 13 + 5n to the end"
unfoldable pub record_bytes : ℕ → ℕ → ℕ → ℕ → (ℕ → ℕ) → (ℕ → ℤ) → (ℕ → ℕ) → List ℕ
record_bytes n cost moves root parent potential entry =
    tab 8 (byte_of cost) ++ (tab 4 (byte_of moves) ++ (tab 1 (byte_of root) ++ (fields 1 n parent
    ++ (fields 4 n (λ y. signed (potential y)) ++ fields 4 (n * n) entry))))

-- "It has 4n² + 5n + 13 bytes"
abbrev pub record_size : ℕ → ℕ
record_size n = 4 * (n * n) + 5 * n + 13
