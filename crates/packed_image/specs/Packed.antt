-- Document 02, W-203: "the image with sections back to back". It has c sections, and section t is the bytes `f t`.
use Rattle.std.specs.Prelude.{ℕ, ◌+◌, ◌*◌, List, ◌++◌, length}
use Rattle.arithmetic.specs.Sum.{sum}
use Rattle.arithmetic.specs.Table.{tab, appended}
use Rattle.little_endian.specs.LittleEndian.{byte_of}

-- "back to back from byte 36", which is where four pairs end: the start of section t, if section i has `long i` bytes
abbrev pub start : (c : ℕ) (long : ℕ → ℕ) → ℕ → ℕ
start c long t = 4 + 8 * c + sum t long

-- "pairs of 32-bit offset and length"
abbrev pub pair : (c : ℕ) (long : ℕ → ℕ) → ℕ → List ℕ
pair c long t = tab 4 (byte_of (start c long t)) ++ tab 4 (byte_of (long t))

-- "byte 0 is n, byte 1 is 0, bytes 2–3 are m", and the pairs; byte 1 is left free
unfoldable pub header : (n form m c : ℕ) (long : ℕ → ℕ) → List ℕ
header n form m c long = tab 1 (byte_of n) ++ (tab 1 (byte_of form) ++ (tab 2 (byte_of m) ++ appended c (pair c long)))

-- the image
unfoldable pub packed : (n form m c : ℕ) (f : ℕ → List ℕ) → List ℕ
packed n form m c f = header n form m c (λ t. length (f t)) ++ appended c f
