-- An image that is read without refusal can be written, in no more bytes.
use mathlib.Core.Path.{◌≡◌, sym, ap, ◌∙◌}
use mathlib.Core.Bool.{Bool, true, not, cond, ◌||◌}
use mathlib.Core.List.{List, [], ◌∷◌}
use Prim.Native.Nat.{ℕ, ◌+◌, ◌*◌, ◌≤◌, ◌<◌}
use native.Mathlib.Omega.{arith}
use lib.Dec.{eqb, leb}
use lib.ListN.{length, get_or-eq_default}
use borrow.Author.Tests.{eqb-true, leb-true, eq-eqb, le-leb}
use Rattle.arithmetic.specs.Refusal.{check, refusal}
use Rattle.arithmetic.specs.Table.{at, tab}
use Rattle.arithmetic.proofs.Laws.Bools.{case, case<, all-at, all_intro, and_l, and_r, and-true, or_right, or_true_r}
use Rattle.arithmetic.proofs.Laws.Table.{length-tab, tab-at}
use Rattle.arithmetic.proofs.Laws.Refusal.{right_failed}
use Rattle.little_endian.specs.LittleEndian.{two, four}
use Rattle.graph.specs.Checks.{lists_ok}
use Rattle.directory.specs.Directory.{end_in, pair_ok}
use Rattle.image.specs.Image.{vertex_count, edge_count, offset, extent, section_ok, layout_ok, has_tree, lower_end, upper_end, edge_length_of, amount, root_in, parent_in}
use Rattle.image.specs.Contents.{graph_of_image, contents_of}
use Rattle.image.proofs.Laws.ImageCheck.{WellFormed, lists_read}
use Rattle.image_sections.specs.Held.{at_most}
use Rattle.image_writer.specs.WriteImage.{tables_ok, numbers_ok, write_refusal}
use Rattle.image_writer.specs.Steps.Size.{tree_size}
use Rattle.image_writer.proofs.Laws.Accepted.{at-most}
use Rattle.image_writer.proofs.Laws.Size.{length_image, gives_0, gives_2}
use Rattle.image_rewriter.specs.Rewrite.{rewritten}

-- ---- numbers in bytes

-- what is known of a slice of bytes
pub all_bytes : (s : List ℕ) → ((i : ℕ) → at s i < 256) → at_most 255 s ≡ true
all_bytes s h = all_intro (length s) (λ i. leb (at s i) 255) (λ i _. le-leb (at s i) 255 (omega (arith, h i)))

module _ (s : List ℕ) (bytes : at_most 255 s ≡ true) where
  byte_most : (k : ℕ) → at s k ≤ 255
  byte_most k = case< k (length s) (at-most 255 s bytes k) (λ h. rw (get_or-eq_default s 0 h) (omega arith))

  two_most : (k : ℕ) → two s k ≤ 65535
  unfolding two
  two_most k = omega (arith, byte_most k, byte_most (k + 1))

  four_most : (k : ℕ) → four s k ≤ 4294967295
  four_most k = omega (arith, two_most k, two_most (k + 2))

-- a table of small numbers
tab_most : (k n : ℕ) (f : ℕ → ℕ) → ((i : ℕ) → f i ≤ k) → at_most k (tab n f) ≡ true
tab_most k n f h =
    all_intro (length (tab n f)) (λ i. leb (at (tab n f) i) k)
    (λ i l. le-leb (at (tab n f) i) k (rw (tab-at n f 0 i (rw (length-tab n f) at l)) (h i)))

module _ {s : List ℕ} (a : WellFormed s) where
  abbrev n : ℕ
  n = vertex_count s

  abbrev m : ℕ
  m = edge_count s

  -- the writer's own check of lengths
  tables_read : (room : ℕ) → tables_ok (contents_of s) room ≡ leb (length (rewritten s)) room
  unfolding tables_ok
  tables_read room =
      let ps = tab n (parent_in s) in
      rw (
        eq-eqb (length (tab n (amount s 0))) n (length-tab n (amount s 0)),
        eq-eqb (length (tab n (amount s 1))) n (length-tab n (amount s 1)),
        or_true_r (not (has_tree s)) (eqb (length ps) n) (eq-eqb (length ps) n (length-tab n (parent_in s))),
      )

  -- the tree's section
  tree_extent : extent s 3 ≡ tree_size n (has_tree s)
  unfolding layout_ok
  tree_extent =
      let h = a.layout in
      let e3 : eqb (extent s 3) 0 || eqb (extent s 3) (n + 1) ≡ true = search and_r in
      case (eqb (extent s 3) 0)
      (λ e. eqb-true (extent s 3) 0 e ∙ sym (ap (λ (b : Bool). tree_size n (not b)) e))
      (λ e. eqb-true (extent s 3) (n + 1) (or_right (eqb (extent s 3) 0) _ e3 e) ∙ sym (ap (λ (b : Bool). tree_size n (not b)) e))

  -- each section lies behind its forerunner
  in_order : (t : ℕ) → t < 4 → section_ok s t ≡ true
  in_order = all-at 4 (section_ok s) a.sections

  -- "the result is never longer than the image"
  pub never_longer : length (rewritten s) ≤ length s
  unfolding pair_ok layout_ok
  never_longer =
      let h = a.layout in
      let o0 = in_order 0 (omega arith) in
      let o1 = in_order 1 (omega arith) in
      let o2 = in_order 2 (omega arith) in
      let o3 = in_order 3 (omega arith) in
      let first : 36 ≤ offset s 0 = leb-true 36 (offset s 0) (and_l _ _ o0) in
      let second : end_in 4 s 0 ≤ offset s 1 = search (leb-true, and_l, and_r) in
      let third : end_in 4 s 1 ≤ offset s 2 = search (leb-true, and_l, and_r) in
      let fourth : end_in 4 s 2 ≤ offset s 3 = search (leb-true, and_l, and_r) in
      let last : end_in 4 s 3 ≤ length s = search (leb-true, and_r) in
      let e0 : extent s 0 ≡ 4 * m = search (eqb-true, and_l, and_r) in
      let e1 : extent s 1 ≡ 4 * n = search (eqb-true, and_l, and_r) in
      let e2 : extent s 2 ≡ 4 * n = search (eqb-true, and_l, and_r) in
      omega (arith, length_image (contents_of s), length-tab m (lower_end s), tree_extent)

  module _ (bytes : at_most 255 s ≡ true) where
    numbers_read : numbers_ok (contents_of s) ≡ true
    unfolding numbers_ok
    numbers_read =
        let byte = byte_most s bytes in
        and-true _ _
        (and-true _ _ (tab_most 255 m (lower_end s) (λ e. byte (offset s 0 + 4 * e)))
        (and-true _ _ (tab_most 255 m (upper_end s) (λ e. byte (offset s 0 + 4 * e + 1)))
        (tab_most 65535 m (edge_length_of s) (λ e. two_most s bytes (offset s 0 + 4 * e + 2)))))
        (and-true _ _ (tab_most 4294967295 n (amount s 0) (λ x. four_most s bytes (offset s 1 + 4 * x)))
        (and-true _ _ (tab_most 4294967295 n (amount s 1) (λ x. four_most s bytes (offset s 2 + 4 * x)))
        (or_true_r (not (has_tree s)) _
        (and-true _ _ (le-leb (root_in s) 255 (byte (offset s 3))) (tab_most 255 n (parent_in s) (λ x. byte (offset s 3 + 1 + x)))))))

    -- the writer's number of what was read: 2 for a short buffer, else 0
    pub contents_number : (room : ℕ) → write_refusal (contents_of s) room ≡ refusal (check 2 (leb (length (rewritten s)) room) ∷ [])
    unfolding refusal
    contents_number room =
        case (leb (length (rewritten s)) room)
        (λ e.
        sym (gives_0 (contents_of s) room a.vertices (and-true _ _ (lists_read s a.edges) (tables_read room ∙ e)) numbers_read)
        ∙ sym (ap (λ (b : Bool). cond b 0 2) e))
        (λ e. sym (gives_2 (contents_of s) room a.vertices (right_failed (lists_ok (graph_of_image s)) _ (tables_read room ∙ e))) ∙ sym (ap (λ (b : Bool). cond b 0 2) e))
