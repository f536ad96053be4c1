-- Document 01: "numbers in bytes are little-endian".
use Rattle.std.specs.Prelude.{ℕ, ◌+◌, ◌-◌, ◌*◌, ◌/◌, ◌%◌, ◌^◌, List, ℤ, pos, negsuc}
use Rattle.arithmetic.specs.Table.{at, rows}

-- the number in two bytes and in four bytes from place k
unfoldable pub two : List ℕ → ℕ → ℕ
two s k = at s k + 256 * at s (k + 1)

abbrev pub four : List ℕ → ℕ → ℕ
four s k = two s k + 65536 * two s (k + 2)

-- byte i of x, the lowest first
unfoldable pub byte_of : ℕ → ℕ → ℕ
byte_of x i = x / 256 ^ i % 256

-- m fields of k bytes each
abbrev pub fields : ℕ → ℕ → (ℕ → ℕ) → List ℕ
fields k m f = rows k m (λ i. byte_of (f i))

-- a signed number of 32 bits, in two's complement
abbrev pub signed : ℤ → ℕ
signed (pos x) = x
signed (negsuc x) = 2 ^ 32 - 1 - x
