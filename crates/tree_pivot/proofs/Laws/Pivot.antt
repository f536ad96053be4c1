-- The pivot: the subtree of c is cut off and hung by its vertex a on b, which reverses the path from a to c.
use mathlib.Core.Path.{◌≡◌, sym, ◌∙◌, ap}
use mathlib.Core.Bool.{Bool, true, false, not, cond, ◌&&◌, ◌||◌}
use Prim.Native.Nat.{ℕ, ◌+◌, ◌-◌, ◌<◌}
use native.Mathlib.Omega.{arith}
use lib.Dec.{eqb}
use borrow.Author.Tests.{ne_eqb}
use Rattle.arithmetic.specs.Sum.{pick}
use Rattle.arithmetic.proofs.Laws.Bools.{case, case≡, clash, is_false, both, eqb_self, eqb_sym}
use Rattle.arithmetic.proofs.Laws.Sum.{pick-zero, sum-add, sum_ext, sum-pick}
use Rattle.rooted_tree.specs.Chain.{below, depth}
use Rattle.rooted_tree.specs.Steps.Rooted.{Rooted}
use Rattle.rooted_tree.specs.Steps.Subtotal.{subtotal}
use Rattle.rooted_tree.proofs.Laws.Rooted.{unique, at-step, at_root, refl_b, up_b, down_b, parent_b, trans_b, out-b, comparable, antisym, depth-step, depth-lt, depth_mono, rooted_of_rank}
use Rattle.tree_pivot.specs.Steps.Pivot.{Toward, Pivot, Place, end, path, side, out}

-- a test that differs tells two numbers apart
pub apart : (f : ℕ → Bool) {u v : ℕ} → f u ≡ true → f v ≡ false → u ≡ v → ⊥
apart f e g h = clash (rw h at e) g

module _ {n r : ℕ} {p : ℕ → ℕ} {a b c : ℕ} {q : ℕ → ℕ} (v : Pivot n r p a b c q) where
  pub root_out : below p n r c ≡ false
  root_out = at_root v.cut.tree c ∙ ne_eqb r c v.cut.c_root

  self_a : below p n a a ≡ true
  self_a = refl_b v.cut.tree a v.cut.a_low

  reversed_in : (y : ℕ) → y < n → below p n a y ≡ true → below p n y c ≡ true → (y ≡ a → ⊥) → below p n (q y) c ≡ true
  reversed_in y l e f d =
      let z = v.reversed y l e f d in
      up_b v.cut.tree (q y) c z.low (cc)

  pub place : (y : ℕ) → y < n → Place n p a c q y
  place y l =
      case (below p n y c)
      (λ e. case (below p n a y)
      (λ f. case≡ y a end (λ d. path f e (reversed_in y l f e d) d (v.reversed y l f e d)))
      (λ f. side f e (down_b v.cut.tree y c l e (λ h. apart (λ x. below p n a x) v.cut.a_in f (sym h))) (v.side y l f)))
      (λ e. out e (is_false _ (λ h. clash (up_b v.cut.tree y c l h) e)) (v.out y l e))

  -- above the child of y towards a is what is above y, and the child
  toward_step : (y x : ℕ) → Toward n p a y (q y) → below p n (q y) x ≡ eqb (q y) x || below p n y x
  toward_step y x z = cc (at-step v.cut.tree (q y) x z.low)

  -- ---- the new parents make a tree

  -- three tiers: outside the subtree; the path, rising from a to c; the rest of the subtree
  rank : ℕ → ℕ
  rank y =
      cond (below p n y c)
      (cond (below p n a y) (n + (depth p r n a - depth p r n y)) (n + n + depth p r n y))
      (depth p r n y)

  falls : (y : ℕ) → y < n → (y ≡ r → ⊥) → rank (q y) < rank y
  unfolding rank
  falls y l d =
      elim (place y l) [
        | end e ↦ rw (e, v.hung, v.cut.b_out, v.cut.a_in, self_a) (omega (arith, depth-lt v.cut.tree b v.cut.b_low))
        | path f e g h z ↦
            rw (e, f, g, z.from)
            (omega (
              arith,
              depth-step v.cut.tree (q y) z.low (apart (λ x. below p n x c) g root_out),
              ap (depth p r n) z.over,
              depth_mono v.cut.tree (q y) a v.cut.a_low z.from,
            ))
        | side f e g h ↦
            case (below p n a (p y))
            (λ i. rw (h, e, f, g, i) (omega (arith, depth-lt v.cut.tree a v.cut.a_low)))
            (λ i. rw (h, e, f, g, i) (omega (arith, depth-step v.cut.tree y l d)))
        | out e f g ↦ rw (g, e, f) (omega (arith, depth-step v.cut.tree y l d))
      ]

  pub q_into : (y : ℕ) → y < n → q y < n
  q_into y l =
      elim (place y l) [
        | end e ↦ rw (e, v.hung) v.cut.b_low
        | path f e g h z ↦ z.low
        | side f e g h ↦ rw h (v.cut.tree.into y l)
        | out e f g ↦ rw g (v.cut.tree.into y l)
      ]

  pub new_tree : Rooted n r q
  new_tree =
      rooted_of_rank n r q rank v.cut.tree.root (v.out r v.cut.tree.root root_out ∙ v.cut.tree.stay) q_into falls

  -- ---- what is below a vertex in the new tree

  -- two vertices that a test tells apart
  differ_c : (x y : ℕ) → below p n x c ≡ true → below p n y c ≡ false → eqb y x ≡ false
  differ_c x y e f = ne_eqb y x (λ h. apart (λ u. below p n u c) e f (sym h))

  differ_a : (x y : ℕ) → below p n a x ≡ true → below p n a y ≡ false → eqb y x ≡ false
  differ_a x y e f = ne_eqb y x (λ h. apart (λ u. below p n a u) e f (sym h))

  pub a-step : (y : ℕ) → y < n → (y ≡ r → ⊥) → below p n y c ≡ eqb y a || below p n (q y) c
  a-step y l d =
      elim (place y l) [
        | end e ↦ cc (eqb_self a)
        | path f e g h z ↦ cc (ne_eqb y a h)
        | side f e g h ↦ cc (differ_a a y self_a f)
        | out e f g ↦ cc (differ_c a y v.cut.a_in e)
      ]

  pub below-a : (y : ℕ) → y < n → below q n y a ≡ below p n y c
  below-a y l = sym (unique new_tree a (λ u. below p n u c) (cc (root_out, differ_c a r v.cut.a_in root_out)) a-step y l)

  module _ (x : ℕ) (ex : below p n x c ≡ false) where
    new_out : ℕ → Bool
    new_out y = cond (below p n y c) (below p n b x) (below p n y x)

    out_step : (y : ℕ) → y < n → (y ≡ r → ⊥) → new_out y ≡ eqb y x || new_out (q y)
    unfolding new_out
    out_step y l d =
        elim (place y l) [
          | end e ↦ cc (eqb_sym a x, differ_c a x v.cut.a_in ex)
          | path f e g h z ↦ cc (eqb_sym y x, differ_c y x e ex)
          | side f e g h ↦ cc (eqb_sym y x, differ_c y x e ex)
          | out e f g ↦ cc (at-step v.cut.tree y x l)
        ]

    pub below_out : (y : ℕ) → y < n → below q n y x ≡ cond (below p n y c) (below p n b x) (below p n y x)
    unfolding new_out
    below_out y l = sym (unique new_tree x new_out (cc (root_out, at_root v.cut.tree x)) out_step y l)

  module _ (x : ℕ) (ex : below p n x c ≡ true) (fx : below p n a x ≡ false) where
    side-step : (y : ℕ) → y < n → (y ≡ r → ⊥) → below p n y x ≡ eqb y x || below p n (q y) x
    side-step y l d =
        elim (place y l) [
          | end e ↦ cc (out-b v.cut.tree x c b v.cut.b_low ex v.cut.b_out, eqb_sym a x, differ_a a x self_a fx)
          | path f e g h z ↦
              cc (eqb_sym y x, differ_a y x f fx, toward_step y x z, eqb_sym (q y) x, differ_a (q y) x z.from fx)
          | side f e g h ↦ cc (at-step v.cut.tree y x l)
          | out e f g ↦ cc (at-step v.cut.tree y x l)
        ]

    pub below-side : (y : ℕ) → y < n → below q n y x ≡ below p n y x
    below-side y l = sym (unique new_tree x (λ u. below p n u x) (at_root v.cut.tree x) side-step y l)

  module _ (x : ℕ) (k : x < n) (ex : below p n x c ≡ true) (fx : below p n a x ≡ true) (dx : x ≡ a → ⊥) where
    new_path : ℕ → Bool
    new_path y = below p n y c && not (below p n y (q x))

    -- the child of x is not above x
    not_above : below p n x (q x) ≡ false
    not_above =
        let w = v.reversed x k fx ex dx in
        is_false _ (λ h. w.other (antisym v.cut.tree x (q x) k w.low (rw w.over at (parent_b v.cut.tree (q x) w.low)) h))

    path-step : (y : ℕ) → y < n → (y ≡ r → ⊥) → new_path y ≡ eqb y x || new_path (q y)
    unfolding new_path
    path-step y l d =
        let w = v.reversed x k fx ex dx in
        elim (place y l) [
          | end e ↦ cc (ne_eqb x a dx, eqb_sym x a)
          | path f e g h z ↦
              case≡ y x
              (λ i. cc (not_above, eqb_self x))
              (λ i. cc (ne_eqb y x i, toward_step y (q x) z, ne_eqb (q y) (q x) (λ j. i (cc))))
          | side f e g h ↦ cc (at-step v.cut.tree y (q x) l, differ_a x y fx f, differ_a (q x) y w.from f)
          | out e f g ↦ cc (differ_c x y ex e)
        ]

    pub below-path : (y : ℕ) → y < n → below q n y x ≡ below p n y c && not (below p n y (q x))
    unfolding new_path
    below-path y l = sym (unique new_tree x new_path (cc (root_out, differ_c x r ex root_out)) path-step y l)

-- ---- the subtotals of the new tree
module _ {n r : ℕ} {p : ℕ → ℕ} {a b c : ℕ} {q : ℕ → ℕ} (v : Pivot n r p a b c q) (m : ℕ → ℕ) where
  pub total_a : subtotal q n m a ≡ subtotal p n m c
  unfolding subtotal
  total_a = sum_ext n _ _ (λ y l. rw (below-a v y l))

  pub total_side : (x : ℕ) → x < n → below p n x c ≡ true → below p n a x ≡ false → subtotal q n m x ≡ subtotal p n m x
  unfolding subtotal
  total_side x k e f = sum_ext n _ _ (λ y l. rw (below-side v x e f y l))

  pub total_path : (x : ℕ) → x < n → below p n x c ≡ true → below p n a x ≡ true → (x ≡ a → ⊥)
      → subtotal q n m x + subtotal p n m (q x) ≡ subtotal p n m c
  unfolding subtotal
  total_path x k e f d =
      sym (sum-add n _ _) ∙ sum_ext n _ _ (λ y l.
      case (below p n y (q x))
      (λ g. rw (below-path v x k e f d y l, g, trans_b v.cut.tree (q x) c y l g (reversed_in v x k f e d)) (omega arith))
      (λ g. case (below p n y c)
      (λ h. rw (below-path v x k e f d y l, g, h) (omega arith))
      (λ h. rw (below-path v x k e f d y l, g, h) (omega arith))))

  -- a vertex out of the subtree is above all of it, or above none
  all_or_none : (x y : ℕ) → y < n → below p n x c ≡ false → below p n y c ≡ true → below p n y x ≡ below p n c x
  all_or_none x y l e f =
      both _ _ (λ h. comparable v.cut.tree x c y l h f e) (λ h. trans_b v.cut.tree c x y l f h)

  pub total_out : (x : ℕ) → x < n → below p n x c ≡ false
      → subtotal q n m x + pick (below p n c x) (subtotal p n m c) ≡ subtotal p n m x + pick (below p n b x) (subtotal p n m c)
  unfolding subtotal
  total_out x k e =
      rw (← (sum-pick n (below p n c x) (λ y. pick (below p n y c) (m y))), ← (sum-pick n (below p n b x) (λ y. pick (below p n y c) (m y))))
      (sym (sum-add n _ _) ∙ sum_ext n _ _ (λ y l.
      case (below p n y c)
      (λ f. rw (below_out v x e y l, f, all_or_none x y l e f) (omega arith))
      (λ f. rw (below_out v x e y l, f, pick-zero (below p n c x), pick-zero (below p n b x)))) ∙ sum-add n _ _)
