-- The order of a subtree and of the children so far: a vertex comes first, then its children one by one.
use mathlib.Core.Path.{◌≡◌, refl, ap}
use mathlib.Core.Bool.{true, false}
use mathlib.Core.List.{[], ◌∷◌, ◌++◌, append-nil}
use Prim.Native.Nat.{ℕ, zero, suc, ◌+◌, ◌-◌, ◌≤◌, ◌<◌}
use native.Mathlib.Numerals.{add-one}
use native.Mathlib.Omega.{arith}
use lib.ListN.{length, length-append}
use Rattle.arithmetic.specs.Table.{appended}
use Rattle.rooted_tree.specs.Chain.{is_child}
use Rattle.preorder.specs.Preorder.{preorder}
use Rattle.preorder.specs.Steps.Printing.{subtree_order, children_order}

module _ (n r : ℕ) (p : ℕ → ℕ) (d v : ℕ) where
  pub vertex_first : d < n → subtree_order n r p d v ≡ v ∷ children_order n r p d v n
  unfolding preorder
  vertex_first l = let e : n - d ≡ suc (n - (d + 1)) = omega arith in rw e

  pub vertex_counts : d < n → length (subtree_order n r p d v) ≡ suc (length (children_order n r p d v n))
  vertex_counts l = ap length (vertex_first l)

  pub no_child : children_order n r p d v 0 ≡ []
  unfolding appended
  no_child = refl

  pub next_child : (c : ℕ) → is_child r p v c ≡ true → children_order n r p d v (c + 1) ≡ children_order n r p d v c ++ subtree_order n r p (d + 1) c
  unfolding appended
  next_child c t = rw (add-one, t)

  pub next_other : (c : ℕ) → is_child r p v c ≡ false → children_order n r p d v (c + 1) ≡ children_order n r p d v c
  unfolding appended
  next_other c t = rw (add-one, t) (append-nil _)

  children_le : (m c : ℕ) → length (children_order n r p d v c) ≤ length (children_order n r p d v (c + m))
  unfolding appended
  children_le zero c = let e : c + 0 ≡ c = omega arith in rw e (omega arith)
  children_le (suc m) c =
      let e : c + suc m ≡ suc (c + m) = omega arith in
      rw (e, length-append) (omega (arith, children_le m c))

  -- the children before c are part of all, and so is c with its subtree
  pub children_part : (c : ℕ) → c ≤ n → length (children_order n r p d v c) ≤ length (children_order n r p d v n)
  children_part c h = let e : c + (n - c) ≡ n = omega arith in rw e at (children_le (n - c) c)

  pub child_part : (c : ℕ) → c < n → is_child r p v c ≡ true
      → length (children_order n r p d v c) + length (subtree_order n r p (d + 1) c) ≤ length (children_order n r p d v n)
  child_part c h t =
      omega (
        arith,
        children_part (c + 1) (omega arith),
        ap length (next_child c t),
        length-append (children_order n r p d v c) (subtree_order n r p (d + 1) c),
      )
