-- What the sections' functions give, over an image s and the numbers that the code has read from it.
use mathlib.Core.Path.{◌≡◌, sym, ap, ◌∙◌}
use mathlib.Core.Bool.{true, false, cond}
use mathlib.Core.List.{List, []}
use Prim.Native.Nat.{ℕ, ◌+◌, ◌*◌}
use native.Mathlib.Omega.{arith}
use borrow.Author.Tests.{eq-eqb, ne_eqb}
use Rattle.arithmetic.specs.Sum.{pick}
use Rattle.arithmetic.specs.Table.{at, tab, written}
use Rattle.arithmetic.proofs.Laws.Table.{tab_ext}
use Rattle.little_endian.specs.LittleEndian.{two, four}
use Rattle.image.specs.Image.{vertex_count, edge_count, offset, extent, tree_section, has_tree, lower_end, upper_end, edge_length_of, amount, root_in, parent_in}

-- a loop's table of c numbers f is the answer's table of m numbers g
listed : (c m : ℕ) (f g : ℕ → ℕ) (l out : List ℕ) → c ≡ m → ((e : ℕ) → f e ≡ g e) → out ≡ written 0 (tab c f) l
    → out ≡ written 0 (tab m g) l
listed c m f g l out e h k = k ∙ rw (e, tab_ext m f g (λ i b. h i))

module _ (s : List ℕ) where
  module _ (m x : ℕ) (em : m ≡ edge_count s) (ex : x ≡ offset s 0) (l out : List ℕ) where
    pub lower_filled : out ≡ written 0 (tab m (λ e. at s (x + 4 * e))) l → out ≡ written 0 (tab (edge_count s) (lower_end s)) l
    lower_filled = listed m _ _ (lower_end s) l out em (λ e. ap (λ (k : ℕ). at s (k + 4 * e)) ex)

    pub upper_filled : out ≡ written 0 (tab m (λ e. at s (x + 1 + 4 * e))) l → out ≡ written 0 (tab (edge_count s) (upper_end s)) l
    upper_filled =
        listed m _ _ (upper_end s) l out em
        (λ e. let z : x + 1 + 4 * e ≡ offset s 0 + 4 * e + 1 = omega arith in ap (λ (k : ℕ). at s k) z)

    pub lengths_filled : out ≡ written 0 (tab m (λ e. two s (x + 2 + 4 * e))) l → out ≡ written 0 (tab (edge_count s) (edge_length_of s)) l
    lengths_filled =
        listed m _ _ (edge_length_of s) l out em
        (λ e. let z : x + 2 + 4 * e ≡ offset s 0 + 4 * e + 2 = omega arith in ap (λ (k : ℕ). two s k) z)

  pub amounts_filled : (n x t : ℕ) → n ≡ vertex_count s → x ≡ offset s (t + 1) → (l out : List ℕ)
      → out ≡ written 0 (tab n (λ e. four s (x + 4 * e))) l → out ≡ written 0 (tab (vertex_count s) (amount s t)) l
  amounts_filled n x t en ex l out = listed n _ _ (amount s t) l out en (λ e. ap (λ (k : ℕ). four s (k + 4 * e)) ex)

  -- the tree: y is its length
  module _ (y : ℕ) (ey : y ≡ extent s (tree_section s)) where
    has : (y ≡ 0 → ⊥) → has_tree s ≡ true
    has h = rw (ne_eqb (extent s (tree_section s)) 0 (λ z. h (ey ∙ z)))

    has_not : y ≡ 0 → has_tree s ≡ false
    has_not h = rw (eq-eqb (extent s (tree_section s)) 0 (sym ey ∙ h))

    pub parents_filled : (y ≡ 0 → ⊥) → (n x : ℕ) → n ≡ vertex_count s → x ≡ offset s (tree_section s) → (l out : List ℕ)
        → out ≡ written 0 (tab n (λ e. at s (x + 1 + 1 * e))) l
        → out ≡ written 0 (cond (has_tree s) (tab (vertex_count s) (parent_in s)) []) l
    parents_filled h n x en ex l out k =
        rw (has h)
        (listed n _ _ (parent_in s) l out en (λ e. let z : x + 1 + 1 * e ≡ offset s (tree_section s) + 1 + e = omega arith in ap (λ (k : ℕ). at s k) z) k)

    pub parents_kept : y ≡ 0 → (l : List ℕ) → l ≡ written 0 (cond (has_tree s) (tab (vertex_count s) (parent_in s)) []) l
    parents_kept h l = rw (has_not h)

    -- what is returned of the tree
    pub root_read : (y ≡ 0 → ⊥) → (v x : ℕ) → v ≡ at s x → x ≡ offset s (tree_section s) → v ≡ pick (has_tree s) (root_in s)
    root_read h v x e ex = rw (has h) (e ∙ ap (λ (k : ℕ). at s k) ex)

    pub tree_marked : (y ≡ 0 → ⊥) → 1 ≡ pick (has_tree s) 1
    tree_marked h = rw (has h)

    pub no_tree : y ≡ 0 → (v : ℕ) → 0 ≡ pick (has_tree s) v
    no_tree h v = rw (has_not h)
