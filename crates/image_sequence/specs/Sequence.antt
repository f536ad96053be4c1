-- Document 02, W-201: a sequence of images, which the document calls a reel. s is its bytes.
use Rattle.std.specs.Prelude.{ℕ, ◌+◌, ◌*◌, Bool, ◌&&◌, List, length, take, drop, leb}
use Rattle.arithmetic.specs.Bools.{all}
use Rattle.little_endian.specs.LittleEndian.{two}
use Rattle.directory.specs.Directory.{offset_in, extent_in, pair_ok}

-- "a two-byte count"
abbrev pub image_count : List ℕ → ℕ
image_count s = two s 0

-- "then that many pairs of 32-bit offset and length": where the directory ends
abbrev pub directory_end : List ℕ → ℕ
directory_end s = 2 + 8 * image_count s

-- "each pair an image": the bytes of image i
abbrev pub image_at : List ℕ → ℕ → List ℕ
image_at s i = take (extent_in 2 s i) (drop (offset_in 2 s i) s)

-- 14: "when the reel ends before its count or directory does, or a pair starts inside the directory or before its forerunner's end, or ends
-- past the reel"
unfoldable pub sequence_ok : List ℕ → Bool
sequence_ok s =
    leb 2 (length s) && (leb (directory_end s) (length s) && all (image_count s) (pair_ok 2 (directory_end s) s))
