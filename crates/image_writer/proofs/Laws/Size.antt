-- How long an image and its sections are, and the writer's number by what code has tested.
use mathlib.Core.Path.{◌≡◌, ◌∙◌}
use mathlib.Core.Bool.{true, false, ◌&&◌}
use mathlib.Core.List.{[], ◌∷◌}
use Prim.Native.Nat.{ℕ, zero, suc, ◌*◌, ◌<◌}
use native.Mathlib.Omega.{arith}
use lib.ListN.{length, length-append}
use Rattle.arithmetic.specs.Sum.{sum}
use Rattle.arithmetic.specs.Table.{at}
use Rattle.arithmetic.specs.Refusal.{refusal}
use Rattle.arithmetic.proofs.Laws.Bools.{case}
use Rattle.arithmetic.proofs.Laws.Table.{length-tab, length-rows}
use Rattle.little_endian.specs.LittleEndian.{byte_of}
use Rattle.little_endian.proofs.Laws.Byte.{length_pieces}
use Rattle.graph.specs.Checks.{vertices_ok, lists_ok, size_checks}
use Rattle.image.specs.Contents.{Contents}
use Rattle.packed_image.proofs.Laws.Packed.{length-packed}
use Rattle.image_writer.specs.ImageBytes.{section, image_bytes}
use Rattle.image_writer.specs.WriteImage.{tables_ok, numbers_ok, write_checks, write_refusal}
use Rattle.image_writer.specs.Steps.Size.{tree_size, image_size, lengths_fit}
use Rattle.image_sections.proofs.Laws.Sections.{length_entry}

-- ---- lengths
module _ (c : Contents) where
  abbrev n : ℕ
  n = c.graph.n

  abbrev m : ℕ
  m = length c.graph.lower

  pub edges_long : length (section c 0) ≡ 4 * m
  unfolding section
  edges_long = length_pieces 4 _ (length_entry c.graph.lower c.graph.upper c.graph.lengths) m

  pub mu_long : length (section c 1) ≡ 4 * n
  unfolding section
  mu_long = simp length-rows (omega arith)

  pub nu_long : length (section c 2) ≡ 4 * n
  unfolding section
  nu_long = simp length-rows (omega arith)

  pub tree_long : length (section c 3) ≡ tree_size n c.tree
  unfolding section
  tree_long =
      case c.tree
      (λ e. rw e (simp (length-append, length-tab 1 (byte_of c.root), length-rows 1 n (λ i. byte_of (at c.parents i))) (omega arith)))
      (λ e. rw e)

  -- 36 + 4m + 8n bytes, and n + 1 more with a tree
  pub length_image : length (image_bytes c) ≡ image_size n m c.tree
  unfolding image_bytes sum
  length_image = length-packed n 0 m 4 (section c) ∙ omega (arith, edges_long, mu_long, nu_long, tree_long)

  -- the lengths as code lists them
  pub listed : (x y z : ℕ) → x ≡ 4 * m → y ≡ 4 * n → z ≡ tree_size n c.tree → (t : ℕ) → t < 4
      → at (x ∷ y ∷ y ∷ z ∷ []) t ≡ length (section c t)
  listed x y z ex ey ez zero l = omega (arith, edges_long)
  listed x y z ex ey ez (suc zero) l = omega (arith, mu_long)
  listed x y z ex ey ez (suc (suc zero)) l = omega (arith, nu_long)
  listed x y z ex ey ez (suc (suc (suc zero))) l = omega (arith, tree_long)
  listed x y z ex ey ez (suc (suc (suc (suc t)))) l = absurd (omega arith)

  -- ---- the number
  module _ (room : ℕ) where
    pub tables_are : lists_ok c.graph && tables_ok c room
        ≡ lists_ok c.graph && lengths_fit n m (length c.mu) (length c.nu) c.tree (length c.parents) room
    unfolding tables_ok
    tables_are = rw length_image

    module _ (v : vertices_ok n ≡ true) where
      pub gives_2 : lists_ok c.graph && tables_ok c room ≡ false → 2 ≡ write_refusal c room
      unfolding write_checks size_checks refusal
      gives_2 h = rw (v, h)

      module _ (t : lists_ok c.graph && tables_ok c room ≡ true) where
        pub gives_13 : numbers_ok c ≡ false → 13 ≡ write_refusal c room
        unfolding write_checks size_checks refusal
        gives_13 h = rw (v, t, h)

        pub gives_0 : numbers_ok c ≡ true → 0 ≡ write_refusal c room
        unfolding write_checks size_checks refusal
        gives_0 h = rw (v, t, h)
