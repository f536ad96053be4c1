-- Document 02, W-203: the image of a patch with its paintings and, if there is one, its tree, byte for byte.
use Rattle.std.specs.Prelude.{ℕ, zero, suc, cond, List, [], length}
use Rattle.image.specs.Contents.{Contents}
use Rattle.packed_image.specs.Packed.{packed}
use Rattle.image_sections.specs.SectionBytes.{edge_bytes, amount_bytes, tree_bytes}

-- the four sections, "empty tree included at the end"
unfoldable pub section : Contents → ℕ → List ℕ
section c zero = edge_bytes c.graph.lower c.graph.upper c.graph.lengths
section c (suc zero) = amount_bytes c.graph.n c.mu
section c (suc (suc zero)) = amount_bytes c.graph.n c.nu
section c (suc (suc (suc t))) = cond c.tree (tree_bytes c.graph.n c.root c.parents) []

-- "the image with sections back to back from byte 36"
unfoldable pub image_bytes : Contents → List ℕ
image_bytes c = packed c.graph.n 0 (length c.graph.lower) 4 (section c)
