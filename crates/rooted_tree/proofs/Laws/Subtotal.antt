-- The mass of a subtree, and summation by parts on a tree.
use mathlib.Core.Path.{◌≡◌, sym, ap, ◌∙◌}
use mathlib.Core.Bool.{Bool, true, false, not, cond}
use Prim.Native.Nat.{ℕ, ◌+◌, ◌*◌, ◌≤◌, ◌<◌}
use native.Mathlib.Nat.{mul_comm, mul-zero, mul-add}
use native.Mathlib.Omega.{arith}
use lib.Dec.{eqb}
use borrow.Author.Tests.{ne_eqb}
use Rattle.arithmetic.specs.Sum.{pick, sum}
use Rattle.arithmetic.proofs.Laws.Bools.{case≡, eqb_self}
use Rattle.arithmetic.proofs.Laws.Sum.{pick-le, pick-mul, sum_ext, sum-le, sum-le-mul, sum-add, sum-mul, sum_swap, sum_change, sum_only}
use Rattle.rooted_tree.specs.Chain.{below, is_child}
use Rattle.rooted_tree.specs.Steps.Rooted.{Rooted, path_sum}
use Rattle.rooted_tree.specs.Steps.Subtotal.{subtotal, inner}
use Rattle.rooted_tree.proofs.Laws.Rooted.{tree_ind, at_root, at-step, refl_b, all-b, parent_out, path-sum_root, path-sum-step}

-- what holds its value at every vertex but the root
pub inner_ext : (n r : ℕ) (f g : ℕ → ℕ) → ((x : ℕ) → x < n → (x ≡ r → ⊥) → f x ≡ g x) → (x : ℕ) → x < n → inner r x (f x) ≡ inner r x (g x)
inner_ext n r f g h x l = case≡ x r (λ e. rw (e, eqb_self r)) (λ d. rw (h x l d))

-- n - 1 vertices of at most `most` each
pub inner_most : (n r most : ℕ) (f : ℕ → ℕ) → r < n → ((x : ℕ) → x < n → f x ≤ most) → sum n (λ x. inner r x (f x)) + most ≤ n * most
inner_most n r most f h each =
    let full : ℕ → ℕ = λ x. cond (eqb x r) most (f x) in
    let none : inner r r (f r) ≡ 0 = rw (eqb_self r) in
    let all : full r ≡ most = rw (eqb_self r) in
    omega (
      arith,
      sum_change n r (λ x. inner r x (f x)) full h (λ x _ d. rw (ne_eqb x r d)),
      sum-le-mul n most full (λ x l. case≡ x r (λ e. rw (e, eqb_self r) (omega arith)) (λ d. rw (ne_eqb x r d) (each x l))),
      none,
      all,
    )

-- it is at most the total
pub subtotal-le : (p : ℕ → ℕ) (n : ℕ) (m : ℕ → ℕ) (x : ℕ) → subtotal p n m x ≤ sum n m
unfolding subtotal
subtotal-le p n m x = sum-le n _ m (λ y l. pick-le (below p n y x) (m y))

module _ {n r : ℕ} {p : ℕ → ℕ} (t : Rooted n r p) where
  -- the root's subtotal is the total
  pub subtotal_root : (m : ℕ → ℕ) → subtotal p n m r ≡ sum n m
  unfolding subtotal
  subtotal_root m = sum_ext n _ _ (λ y l. rw (all-b t y l))

  module _ (U : ℕ → ℕ) where
    up : ℕ → ℕ
    up x = inner r x (U (p x))

    -- the sum of U over the vertices above y is that of U at their parents, and U at y
    telescope : (y : ℕ) → y < n → path_sum p n U y ≡ path_sum p n up y + U y
    telescope =
        tree_ind t (λ y. path_sum p n U y ≡ path_sum p n up y + U y)
        (let z : up r ≡ 0 = unfold up in rw (eqb_self r) in omega (arith, path-sum_root t U, path-sum_root t up, z))
        (λ y l d h.
        let z : up y ≡ U (p y) = unfold up in rw (ne_eqb y r d) in
        omega (arith, h, z, path-sum-step t U y l d, path-sum-step t up y l d))

  pick_swap : (b : Bool) (w m : ℕ) → w * pick b m ≡ m * pick b w
  pick_swap true w m = mul_comm w m
  pick_swap false w m = mul-zero w ∙ sym (mul-zero m)

  -- weights against subtotals: each mass times the weights above it
  subtotals_above : (w m : ℕ → ℕ) → sum n (λ x. w x * subtotal p n m x) ≡ sum n (λ y. m y * path_sum p n w y)
  unfolding subtotal
  subtotals_above w m =
      sum_ext n _ _ (λ x l. sym (sum-mul n (w x) (λ y. pick (below p n y x) (m y))))
      ∙ sum_swap n n (λ x y. w x * pick (below p n y x) (m y))
      ∙ sum_ext n _ _ (λ y l. sum_ext n _ _ (λ x k. pick_swap (below p n y x) (w x) (m y))
      ∙ sum-mul n (m y) (λ x. pick (below p n y x) (w x)))

  module _ (z : ℕ) where
    child : ℕ → ℕ
    child c = pick (is_child r p z c) 1

    -- what is below z is z, or has one child of z above it
    through_child : (y : ℕ) → y < n → pick (below p n y z) 1 ≡ pick (eqb y z) 1 + path_sum p n child y
    through_child =
        tree_ind t (λ y. pick (below p n y z) 1 ≡ pick (eqb y z) 1 + path_sum p n child y)
        (let e : child r ≡ 0 = unfold child in rw (eqb_self r) in rw (at_root t z) (omega (arith, path-sum_root t child, e)))
        (λ y l d h.
        let e : child y ≡ pick (eqb (p y) z) 1 = unfold child in rw (ne_eqb y r d) in
        let s : path_sum p n child y ≡ pick (below p n (p y) z) 1 = omega (arith, h, e, path-sum-step t child y l d) in
        rw s (case≡ y z
        (λ q. rw (← q, refl_b t y l, eqb_self y, parent_out t y l d) (omega arith))
        (λ ne. rw (at-step t y z l, ne_eqb y z ne) (omega arith))))

    children : (m : ℕ → ℕ) → sum n (λ c. child c * subtotal p n m c) ≡ sum n (λ c. pick (is_child r p z c) (subtotal p n m c))
    unfolding child
    children m = sum_ext n _ _ (λ c l. omega (arith, pick_swap (is_child r p z c) (subtotal p n m c) 1))

  -- what is below z: z itself, and what is below its children
  pub subtotal_children : (m : ℕ → ℕ) (z : ℕ) → z < n
      → subtotal p n m z ≡ m z + sum n (λ c. pick (is_child r p z c) (subtotal p n m c))
  subtotal_children m z l =
      unfold subtotal in (sum_ext n _ (λ y. pick (eqb y z) (m y) + m y * path_sum p n (child z) y) (λ y k.
      omega (
        arith,
        pick_swap (below p n y z) (m y) 1,
        pick_swap (eqb y z) (m y) 1,
        ap (λ (s : ℕ). m y * s) (through_child z y k),
      )))
      ∙ sum-add n (λ y. pick (eqb y z) (m y)) (λ y. m y * path_sum p n (child z) y)
      ∙ omega (arith, sum_only n z m l, subtotals_above (child z) m, children z m)

  parents : (U m : ℕ → ℕ) → sum n (λ x. up U x * subtotal p n m x) ≡ sum n (λ x. inner r x (U (p x) * subtotal p n m x))
  unfolding up
  parents U m = sum_ext n _ _ (λ x l. pick-mul (not (eqb x r)) (U (p x)) (subtotal p n m x))

  pub by_parts : (U m : ℕ → ℕ) → sum n (λ x. U x * subtotal p n m x)
      ≡ sum n (λ x. inner r x (U (p x) * subtotal p n m x)) + sum n (λ y. U y * m y)
  by_parts U m =
      subtotals_above U m
      ∙ sum_ext n _ (λ y. m y * path_sum p n (up U) y + U y * m y) (λ y l.
      ap (λ (s : ℕ). m y * s) (telescope U y l) ∙ mul-add (m y) (path_sum p n (up U) y) (U y)
      ∙ ap (λ (s : ℕ). m y * path_sum p n (up U) y + s) (mul_comm (m y) (U y)))
      ∙ sum-add n (λ y. m y * path_sum p n (up U) y) (λ y. U y * m y)
      ∙ ap (λ (s : ℕ). s + sum n (λ y. U y * m y)) (sym (subtotals_above (up U) m) ∙ parents U m)
