-- Document 01, "Image": its layout and checks 11 to 13. s is the image's bytes.
use Rattle.std.specs.Prelude.{ℕ, ◌+◌, ◌*◌, Bool, not, ◌&&◌, ◌||◌, List, length, eqb, leb}
use Rattle.arithmetic.specs.Bools.{all}
use Rattle.arithmetic.specs.Table.{at}
use Rattle.little_endian.specs.LittleEndian.{two, four}
use Rattle.directory.specs.Directory.{offset_in, extent_in, pair_ok}

-- "byte 0 is n, byte 1 is 0, bytes 2–3 are m"
abbrev pub vertex_count : List ℕ → ℕ
vertex_count s = at s 0

abbrev pub edge_count : List ℕ → ℕ
edge_count s = two s 2

-- "Four pairs of 32-bit offset and length": how many sections there are, and where the first may start
abbrev pub section_count : List ℕ → ℕ
section_count s = 4

abbrev pub first_offset : List ℕ → ℕ
first_offset s = 36

-- section 0 is the edges, 1 is mu, 2 is nu, and the last one is the tree
abbrev pub tree_section : List ℕ → ℕ
tree_section s = 3

abbrev pub offset : List ℕ → ℕ → ℕ
offset s t = offset_in 4 s t

abbrev pub extent : List ℕ → ℕ → ℕ
extent s t = extent_in 4 s t

-- 11: "image under 36 or over 65,536 bytes"
unfoldable pub size_ok : List ℕ → Bool
size_ok s = leb (first_offset s) (length s) && leb (length s) 65536

-- 12: "a section starts before 36 or before its forerunner's end, or ends past the image"
abbrev pub section_ok : List ℕ → ℕ → Bool
section_ok s t = pair_ok 4 (first_offset s) s t

abbrev pub sections_ok : List ℕ → Bool
sections_ok s = all (section_count s) (section_ok s)

-- "tree (empty, or root and n parents, one byte each)"
abbrev pub has_tree : List ℕ → Bool
has_tree s = not (eqb (extent s (tree_section s)) 0)

-- 13: "byte 1 isn't 0, or a section length doesn't fit": "m entries: a, b one byte each, length two", "n amounts, four bytes each"
unfoldable pub layout_ok : List ℕ → Bool
layout_ok s =
    eqb (at s 1) 0 && (eqb (extent s 0) (4 * edge_count s)
    && (eqb (extent s 1) (4 * vertex_count s) && (eqb (extent s 2) (4 * vertex_count s)
    && (eqb (extent s (tree_section s)) 0 || eqb (extent s (tree_section s)) (vertex_count s + 1)))))

-- what the sections hold: the ends and the length of edge e,
abbrev pub lower_end : List ℕ → ℕ → ℕ
lower_end s e = at s (offset s 0 + 4 * e)

abbrev pub upper_end : List ℕ → ℕ → ℕ
upper_end s e = at s (offset s 0 + 4 * e + 1)

abbrev pub edge_length_of : List ℕ → ℕ → ℕ
edge_length_of s e = two s (offset s 0 + 4 * e + 2)

-- the amount of vertex x in painting t, before (0) or after (1),
abbrev pub amount : List ℕ → ℕ → ℕ → ℕ
amount s t x = four s (offset s (t + 1) + 4 * x)

-- the root and the parent of vertex x
abbrev pub root_in : List ℕ → ℕ
root_in s = at s (offset s (tree_section s))

abbrev pub parent_in : List ℕ → ℕ → ℕ
parent_in s x = at s (offset s (tree_section s) + 1 + x)
