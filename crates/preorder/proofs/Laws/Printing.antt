-- The page of a tree as its printers make it: a vertex's line, then its children one by one; and how long each part is.
use mathlib.Core.Path.{◌≡◌, refl, sym, ap, ◌∙◌}
use mathlib.Core.Bool.{true, false}
use mathlib.Core.List.{List, [], ◌∷◌, ◌++◌, append_assoc}
use Prim.Native.Nat.{ℕ, zero, suc, ◌+◌, ◌*◌, ◌-◌, ◌≤◌, ◌<◌}
use native.Mathlib.Nat.{sub-zero}
use native.Mathlib.Omega.{arith}
use lib.IntN.{ℤ}
use lib.ListN.{length, take, drop, length-append}
use lib.Seq.{take_at, drop-append-add}
use borrow.Author.Tests.{eqb-true}
use mir.Syntax.{w32}
use mir.Val.{to_z, of_z}
use mir.ValLaws.{to_z-of_z}
use Rattle.arithmetic.specs.Table.{at, written}
use Rattle.arithmetic.proofs.Laws.Bools.{case≡, clash}
use Rattle.rooted_tree.specs.Chain.{depth, is_child}
use Rattle.rooted_tree.specs.Steps.Rooted.{Rooted}
use Rattle.rooted_tree.proofs.Laws.Rooted.{depth-step, depth_root, depth-lt}
use Rattle.decimal_text.specs.Steps.Wrote.{Wrote}
use Rattle.decimal_text.proofs.Laws.Signed.{signed_most}
use Rattle.decimal_text.proofs.Laws.Wrote.{wrote_none, wrote_length, wrote_then, wrote_same, wrote_front}
use Rattle.page_line.specs.Line.{vertex_line}
use Rattle.page_line.proofs.Laws.Line.{length-line}
use Rattle.preorder.specs.Preorder.{tree_order, lines, line_of, page}
use Rattle.preorder.specs.Steps.Printing.{Printable, Placed, figure, subtree_order, children_order, subtree_page, children_page}
use Rattle.preorder.proofs.Laws.Order.{vertex_first, vertex_counts, no_child, next_child, next_other, children_part, child_part}
use Rattle.preorder.proofs.Laws.Vertices.{Below, child_root, child_inner, vertices_only, children_only, all_places}

-- ---- lines of a list
lines-append : (f : ℕ → List ℕ) (xs ys : List ℕ) → lines f (xs ++ ys) ≡ lines f xs ++ lines f ys
unfolding lines
lines-append f [] ys = refl
lines-append f (x ∷ xs) ys = rw (lines-append f xs ys) (sym (append_assoc (f x) (lines f xs) (lines f ys)))

length-lines : (n : ℕ) (f : ℕ → List ℕ) → ((x : ℕ) → x < n → length (f x) ≡ 96) → (vs : List ℕ) → Below n vs → length (lines f vs) ≡ 96 * length vs
unfolding lines Below
length-lines n f h [] b = refl
length-lines n f h (v ∷ vs) b = omega (arith, length-append (f v) (lines f vs), h v b.0, length-lines n f h vs b.1)

lines_ext : (n : ℕ) (f g : ℕ → List ℕ) → ((x : ℕ) → x < n → f x ≡ g x) → (vs : List ℕ) → Below n vs → lines f vs ≡ lines g vs
unfolding lines Below
lines_ext n f g h [] b = refl
lines_ext n f g h (v ∷ vs) b = rw (h v b.0, lines_ext n f g h vs b.1)

-- line k is that of vertex k of the list
lines_at : (n : ℕ) (f : ℕ → List ℕ) → ((x : ℕ) → x < n → length (f x) ≡ 96) → (vs : List ℕ) → Below n vs → (k : ℕ) → k < length vs
    → take 96 (drop (96 * k) (lines f vs)) ≡ f (at vs k)
unfolding lines Below
lines_at n f h [] b k l = absurd (omega arith)
lines_at n f h (v ∷ vs) b zero l = take_at (f v) (lines f vs) 96 (h v b.0)
lines_at n f h (v ∷ vs) b (suc k) l =
    let e : 96 * suc k ≡ length (f v) + 96 * k = omega (arith, h v b.0) in
    rw (e, drop-append-add) (lines_at n f h vs b.1 k (omega arith))

-- ---- depths

-- a child of a vertex is a vertex, one level down
pub child_placed : {n r : ℕ} {p : ℕ → ℕ} {d v c : ℕ} → Rooted n r p → Placed n r p d v → c < n → is_child r p v c ≡ true → Placed n r p (d + 1) c
child_placed {n} {r} {p} {d} {v} {c} tree h l t =
    case≡ c r
    (λ e. clash t (child_root p r v c e))
    (λ e.
    let q : p c ≡ v = eqb-true (p c) v (sym (child_inner p r v c e) ∙ t) in
    record { vertex = l; level = omega (arith, h.level, depth-step tree c l e, ap (depth p r n) q) })

pub level_lt : {n r : ℕ} {p : ℕ → ℕ} {d v : ℕ} → Rooted n r p → Placed n r p d v → d < n
level_lt tree h = omega (arith, h.level, depth-lt tree _ h.vertex)

-- ---- pages
module _ {n r : ℕ} {parents : List ℕ} {is us : List ℤ} (q : Printable n r parents is us) where
  fits : (x : ℕ) → x < n → length (line_of n r (at parents) (figure is) (figure us) x) ≡ 96
  fits x l =
      length-line (depth (at parents) r n x) x (figure is x) (figure us x) (omega (arith, depth-lt q.tree x l, q.few))
      (signed_most (figure is x) (record { sfits = q.imbalances_fit x l }))
      (signed_most (figure us x) (record { sfits = q.potentials_fit x l }))

  pub subtree_length : (d v : ℕ) → v < n
      → length (subtree_page n r (at parents) (figure is) (figure us) d v) ≡ 96 * length (subtree_order n r (at parents) d v)
  subtree_length d v l = length-lines n _ fits _ (vertices_only n r (at parents) (n - d) v l)

  pub children_length : (d v m : ℕ) → m ≤ n
      → length (children_page n r (at parents) (figure is) (figure us) d v m) ≡ 96 * length (children_order n r (at parents) d v m)
  children_length d v m l = length-lines n _ fits _ (children_only n r (at parents) (n - (d + 1)) v m l)

  module _ {d v : ℕ} (h : Placed n r (at parents) d v) where
    line-length : length (vertex_line d v (figure is v) (figure us v)) ≡ 96
    line-length = rw h.level (fits v h.vertex)

    -- the figures were handed on
    line_same : vertex_line d v (to_z w32 (of_z w32 (figure is v))) (to_z w32 (of_z w32 (figure us v))) ≡ vertex_line d v (figure is v) (figure us v)
    line_same =
        ap (λ (z : ℤ). vertex_line d v z (to_z w32 (of_z w32 (figure us v)))) (to_z-of_z w32 (figure is v) (record { sfits = q.imbalances_fit v h.vertex }))
        ∙ ap (vertex_line d v (figure is v)) (to_z-of_z w32 (figure us v) (record { sfits = q.potentials_fit v h.vertex }))

    -- the line of v, and then its children's
    module _ {a b : ℕ} {l m : List ℕ} (room : a + 96 * length (subtree_order n r (at parents) d v) ≤ length l)
        (w : Wrote a (vertex_line d v (to_z w32 (of_z w32 (figure is v))) (to_z w32 (of_z w32 (figure us v)))) l m b) where
      level : d < n
      level = level_lt q.tree h

      own : Wrote a (vertex_line d v (figure is v) (figure us v)) l m b
      own = wrote_same line_same w

      within : b ≤ length l
      within = omega (arith, own.next_is, line-length, vertex_counts n r (at parents) d v level)

      pub vertex_kept : length m ≡ length l
      vertex_kept = wrote_length within own

      pub children_room : b + 96 * length (children_order n r (at parents) d v n) ≤ length m
      children_room = omega (arith, own.next_is, line-length, vertex_counts n r (at parents) d v level, vertex_kept)

      pub vertex_done : {e : ℕ} {o : List ℕ} → Wrote b (children_page n r (at parents) (figure is) (figure us) d v n) m o e
          → Wrote a (subtree_page n r (at parents) (figure is) (figure us) d v) l o e
      unfolding lines
      vertex_done g = rw (vertex_first n r (at parents) d v level, ← h.level) (wrote_then within own g)

    -- no child yet
    pub children_none : (a : ℕ) (l : List ℕ) → Wrote a (children_page n r (at parents) (figure is) (figure us) d v 0) l l a
    unfolding lines
    children_none a l = rw (no_child n r (at parents) d v) (wrote_none a l)

    module _ (c : ℕ) {a b : ℕ} {l m : List ℕ} (room : a + 96 * length (children_order n r (at parents) d v n) ≤ length l)
        (f : Wrote a (children_page n r (at parents) (figure is) (figure us) d v c) l m b) where
      -- the children so far end within the buffer, which is as long as before
      pub children_within : c ≤ n → b ≤ length l
      children_within k = omega (arith, f.next_is, children_length d v c k, children_part n r (at parents) d v c k)

      pub children_kept : c ≤ n → length m ≡ length l
      children_kept k = wrote_length (children_within k) f

      -- c is a child: there is room for its lines, and they are next
      pub child_room : c < n → is_child r (at parents) v c ≡ true → b + 96 * length (subtree_order n r (at parents) (d + 1) c) ≤ length m
      child_room k t =
          omega (
            arith,
            children_kept (omega arith),
            f.next_is,
            children_length d v c (omega arith),
            child_part n r (at parents) d v c k t,
          )

      pub children_child : {e : ℕ} {o : List ℕ} → c < n → is_child r (at parents) v c ≡ true
          → Wrote b (subtree_page n r (at parents) (figure is) (figure us) (d + 1) c) m o e
          → Wrote a (children_page n r (at parents) (figure is) (figure us) d v (c + 1)) l o e
      children_child k t g =
          rw (next_child n r (at parents) d v c t, lines-append) (wrote_then (children_within (omega arith)) f g)

      -- c is none
      pub children_other : is_child r (at parents) v c ≡ false → Wrote a (children_page n r (at parents) (figure is) (figure us) d v (c + 1)) l m b
      children_other t = rw (next_other n r (at parents) d v c t) f

  -- ---- the whole tree
  pub root_placed : Placed n r (at parents) 0 r
  root_placed = record { vertex = q.tree.root; level = sym (depth_root q.tree) }

  pub tree_counts : length (subtree_order n r (at parents) 0 r) ≡ n
  tree_counts = rw sub-zero (all_places q.tree)

  pub tree_printed : {k : ℕ} {l m : List ℕ} → Wrote 0 (subtree_page n r (at parents) (figure is) (figure us) 0 r) l m k
      → (k ≡ 96 * n) × (m ≡ written 0 (page n r (at parents) (figure is) (figure us)) l)
  unfolding page
  tree_printed f =
      let e = subtree_length 0 r q.tree.root in
      (omega (arith, f.next_is, e, tree_counts), rw sub-zero at (wrote_front f).0)

module _ {n r : ℕ} {p : ℕ → ℕ} (tree : Rooted n r p) where
  -- figures that agree make the same page
  pub page_ext : {i i' u u' : ℕ → ℤ} → ((x : ℕ) → x < n → i x ≡ i' x) → ((x : ℕ) → x < n → u x ≡ u' x) → page n r p i u ≡ page n r p i' u'
  unfolding page
  page_ext e f = lines_ext n _ _ (λ x l. rw (e x l, f x l)) _ (vertices_only n r p n r tree.root)

  -- lines of 96 bytes make a page of 96 × n, and line k is that of vertex k of the order
  module _ (i u : ℕ → ℤ) (h : (x : ℕ) → x < n → length (line_of n r p i u x) ≡ 96) where
    pub page-length : length (page n r p i u) ≡ 96 * n
    unfolding page
    page-length = omega (arith, length-lines n (line_of n r p i u) h (tree_order n r p) (vertices_only n r p n r tree.root), all_places tree)

    pub line_at : (k : ℕ) → k < n → take 96 (drop (96 * k) (page n r p i u)) ≡ line_of n r p i u (at (tree_order n r p) k)
    unfolding page
    line_at k l = lines_at n _ h (tree_order n r p) (vertices_only n r p n r tree.root) k (omega (arith, all_places tree))
