-- What was written passes the checks of an image, and holds what was given.
use mathlib.Core.Path.{◌≡◌, refl, sym, ap, ◌∙◌}
use mathlib.Core.Bool.{Bool, true, false, not, cond, ◌||◌}
use mathlib.Core.List.{List, [], ◌++◌}
use Prim.Native.Nat.{ℕ, ◌+◌, ◌*◌, ◌≤◌, ◌<◌}
use native.Mathlib.Omega.{arith}
use lib.Dec.{eqb}
use lib.ListN.{length}
use borrow.Author.Tests.{le-leb, eq-eqb, ne_eqb}
use Rattle.arithmetic.specs.Table.{at, tab}
use Rattle.arithmetic.proofs.Laws.Bools.{case, all_intro, and-true, or-true_l, or_true_r}
use Rattle.arithmetic.proofs.Laws.Sum.{pick-le}
use Rattle.arithmetic.proofs.Laws.Table.{length-tab, tab_is}
use Rattle.little_endian.specs.LittleEndian.{byte_of}
use Rattle.little_endian.proofs.Laws.Holds.{Holds, holds_at, holds_left, holds_right, holds_piece, holds_field, one_held, two_held, four_held}
use Rattle.image.specs.Image.{vertex_count, edge_count, offset, extent, size_ok, section_ok, sections_ok, layout_ok, has_tree, lower_end, upper_end, edge_length_of, amount, root_in, parent_in}
use Rattle.image.specs.Contents.{Contents, graph_of_image, contents_of}
use Rattle.image.proofs.Laws.ImageCheck.{WellFormed}
use Rattle.packed_image.specs.Packed.{start}
use Rattle.packed_image.proofs.Laws.Packed.{length-packed, n_held, form_held, m_held, section_held, offset_held, extent_held, sections_packed}
use Rattle.image_sections.specs.Held.{at_most}
use Rattle.image_sections.specs.SectionBytes.{edge_entry, amount_bytes, tree_bytes}
use Rattle.image_sections.proofs.Laws.Sections.{length_entry}
use Rattle.image_writer.specs.ImageBytes.{section, image_bytes}
use Rattle.image_writer.specs.WriteImage.{SameContents}
use Rattle.image_writer.specs.Steps.Size.{tree_size, image_size}
use Rattle.image_writer.specs.Steps.Writable.{Writable}
use Rattle.image_writer.proofs.Laws.Accepted.{at-most}
use Rattle.image_writer.proofs.Laws.Size.{edges_long, mu_long, nu_long, tree_long, length_image}

module _ {c : Contents} {room : ℕ} (w : Writable c room) where
  abbrev n : ℕ
  n = c.graph.n

  abbrev m : ℕ
  m = length c.graph.lower

  abbrev s : List ℕ
  s = image_bytes c

  abbrev long : ℕ → ℕ
  long t = length (section c t)

  size_is : start 4 long 4 ≡ image_size n m c.tree
  unfolding image_bytes
  size_is = sym (length-packed n 0 m 4 (section c)) ∙ length_image c

  size_most : image_size n m c.tree ≤ 2661
  size_most = omega (arith, w.few, w.edges, pick-le c.tree (n + 1))

  fits : start 4 long 4 < 4294967296
  fits = omega (arith, size_is, size_most)

  -- ---- the header
  vertices_read : vertex_count s ≡ n
  unfolding image_bytes
  vertices_read = n_held n 0 m 4 (section c) (omega (arith, w.few))

  edges_read : edge_count s ≡ m
  unfolding image_bytes
  edges_read = m_held n 0 m 4 (section c) (omega (arith, w.edges))

  form_read : at s 1 ≡ 0
  unfolding image_bytes
  form_read = form_held n 0 m 4 (section c) (omega arith)

  extent_read : (t : ℕ) → t < 4 → extent s t ≡ long t
  unfolding image_bytes
  extent_read t l = extent_held n 0 m 4 (section c) fits t l

  -- ---- the sections
  read_section : (t : ℕ) → t < 4 → Holds s (offset s t) (section c t)
  unfolding image_bytes
  read_section t l = holds_at (sym (offset_held n 0 m 4 (section c) fits t l)) (section_held n 0 m 4 (section c) t l)

  tree_extent : extent s 3 ≡ tree_size n c.tree
  tree_extent = extent_read 3 (omega arith) ∙ tree_long c

  with_tree : c.tree ≡ true → extent s 3 ≡ n + 1
  with_tree e = tree_extent ∙ ap (tree_size n) e

  without : c.tree ≡ false → extent s 3 ≡ 0
  without e = tree_extent ∙ ap (tree_size n) e

  -- ---- the checks of an image
  size_holds : size_ok s ≡ true
  unfolding size_ok
  size_holds =
      and-true _ _ (le-leb 36 (length s) (omega (arith, length_image c))) (le-leb (length s) 65536 (omega (arith, length_image c, size_most)))

  sections-ok : sections_ok s ≡ true
  unfolding image_bytes
  sections-ok = all_intro 4 (section_ok s) (λ t l. sections_packed n 0 m 4 (section c) fits t l (omega arith))

  tree_fits : eqb (extent s 3) 0 || eqb (extent s 3) (vertex_count s + 1) ≡ true
  tree_fits = case c.tree
      (λ e. or_true_r (eqb (extent s 3) 0) _ (eq-eqb (extent s 3) (vertex_count s + 1) (omega (arith, with_tree e, vertices_read))))
      (λ e. or-true_l _ (eqb (extent s 3) (vertex_count s + 1)) (eq-eqb (extent s 3) 0 (without e)))

  layout-ok : layout_ok s ≡ true
  unfolding layout_ok
  layout-ok =
      and-true _ _ (eq-eqb (at s 1) 0 form_read)
      (and-true _ _ (eq-eqb (extent s 0) (4 * edge_count s) (omega (arith, extent_read 0 (omega arith), edges_long c, edges_read)))
      (and-true _ _ (eq-eqb (extent s 1) (4 * vertex_count s) (omega (arith, extent_read 1 (omega arith), mu_long c, vertices_read)))
      (and-true _ _ (eq-eqb (extent s 2) (4 * vertex_count s) (omega (arith, extent_read 2 (omega arith), nu_long c, vertices_read))) tree_fits)))

  pub formed : WellFormed s
  formed = record {
    size = size_holds;
    sections = sections-ok;
    layout = layout-ok;
    vertices = rw vertices_read w.vertices;
    edges = omega (arith, edges_read, w.edges);
  }

  -- ---- the tree mark, the edges, the amounts and the tree
  marked : has_tree s ≡ c.tree
  marked = case c.tree
      (λ e. ap not (ne_eqb (extent s 3) 0 (λ z. omega (arith, z, with_tree e))) ∙ sym e)
      (λ e. ap not (eq-eqb (extent s 3) 0 (without e)) ∙ sym e)

  module _ (e : ℕ) (l : e < m) where
    entry_read : Holds s (offset s 0 + 4 * e) (edge_entry c.graph.lower c.graph.upper c.graph.lengths e)
    unfolding section
    entry_read =
        holds_piece m 4 _ (length_entry c.graph.lower c.graph.upper c.graph.lengths) (read_section 0 (omega arith)) e l

    lower_read : lower_end s e ≡ at c.graph.lower e
    lower_read =
        one_held (at c.graph.lower e) (holds_left (tab 1 (byte_of (at c.graph.lower e))) _ entry_read)
        (omega (arith, at-most 255 c.graph.lower w.lower_held e l))

    after_lower : Holds s (offset s 0 + 4 * e + 1) (tab 1 (byte_of (at c.graph.upper e)) ++ tab 2 (byte_of (at c.graph.lengths e)))
    after_lower =
        holds_at (omega (arith, length-tab 1 (byte_of (at c.graph.lower e)))) (holds_right (tab 1 (byte_of (at c.graph.lower e))) _ entry_read)

    upper_read : upper_end s e ≡ at c.graph.upper e
    upper_read =
        one_held (at c.graph.upper e) (holds_left (tab 1 (byte_of (at c.graph.upper e))) _ after_lower)
        (omega (arith, at-most 255 c.graph.upper w.upper_held e (omega (arith, w.upper))))

    length_read : edge_length_of s e ≡ at c.graph.lengths e
    length_read =
        two_held (at c.graph.lengths e)
        (holds_at (omega (arith, length-tab 1 (byte_of (at c.graph.upper e)))) (holds_right (tab 1 (byte_of (at c.graph.upper e))) _ after_lower))
        (omega (arith, at-most 65535 c.graph.lengths w.lengths_held e (omega (arith, w.lengths))))

  graph_held : graph_of_image s ≡ c.graph
  graph_held =
      let a = tab_is m (lower_end s) c.graph.lower refl lower_read in
      let b = tab_is m (upper_end s) c.graph.upper w.upper upper_read in
      let l = tab_is m (edge_length_of s) c.graph.lengths w.lengths length_read in
      rw (edges_read, a, b, l, vertices_read)

  amounts_read : (t : ℕ) (l : List ℕ) → t + 1 < 4 → section c (t + 1) ≡ amount_bytes n l → length l ≡ n → at_most 4294967295 l ≡ true
      → tab (vertex_count s) (amount s t) ≡ l
  amounts_read t l b e long small =
      rw vertices_read
      (tab_is n (amount s t) l long
      (λ x h. four_held (at l x) (holds_field 4 n (at l) (rw e at (read_section (t + 1) b)) x h)
      (omega (arith, at-most 4294967295 l small x (omega (arith, long))))))

  mu_read : tab (vertex_count s) (amount s 0) ≡ c.mu
  unfolding section
  mu_read = amounts_read 0 c.mu (omega arith) refl w.mu w.mu_held

  nu_read : tab (vertex_count s) (amount s 1) ≡ c.nu
  unfolding section
  nu_read = amounts_read 1 c.nu (omega arith) refl w.nu w.nu_held

  module _ (e : c.tree ≡ true) where
    section_tree : section c 3 ≡ tree_bytes n c.root c.parents
    unfolding section
    section_tree = ap (λ (b : Bool). cond b (tree_bytes n c.root c.parents) []) e

    tree_read : Holds s (offset s 3) (tree_bytes n c.root c.parents)
    tree_read = rw section_tree at (read_section 3 (omega arith))

    root_read : root_in s ≡ c.root
    root_read = one_held c.root (holds_left (tab 1 (byte_of c.root)) _ tree_read) (omega (arith, w.root_held e))

    parent_read : (x : ℕ) → x < n → parent_in s x ≡ at c.parents x
    parent_read x l =
        let h = holds_right (tab 1 (byte_of c.root)) _ tree_read in
        one_held (at c.parents x)
        (holds_at (omega (arith, length-tab 1 (byte_of c.root))) (holds_field 1 n (at c.parents) h x l))
        (omega (arith, at-most 255 c.parents (w.parents_are_held e) x (omega (arith, w.parents e))))

    parents_read : tab (vertex_count s) (parent_in s) ≡ c.parents
    parents_read = rw vertices_read (tab_is n (parent_in s) c.parents (w.parents e) parent_read)

  -- what is in the image is what was given
  pub held : SameContents (contents_of s) c
  held = record {
    graph = graph_held;
    mu = mu_read;
    nu = nu_read;
    tree = marked;
    root = λ e. root_read (sym marked ∙ e);
    parents = λ e. parents_read (sym marked ∙ e);
  }
