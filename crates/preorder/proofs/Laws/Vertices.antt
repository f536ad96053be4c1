-- Every vertex of a tree stands in its preorder exactly once.
use Prim.Native.Nat.{ℕ, zero, suc, ◌+◌, ◌≤◌, ◌<◌}
use mathlib.Core.Path.{◌≡◌, refl, sym, ap, ◌∙◌}
use mathlib.Core.Bool.{Bool, true, false, cond}
use mathlib.Core.List.{List, [], ◌∷◌, ◌++◌}
use native.Mathlib.Omega.{arith}
use lib.Dec.{eqb}
use lib.ListN.{length}
use borrow.Author.Tests.{eqb-true, eqb-false, eq-eqb, ne_eqb}
use Rattle.arithmetic.specs.Sum.{pick, sum}
use Rattle.arithmetic.specs.Table.{at, appended}
use Rattle.arithmetic.proofs.Laws.Bools.{case, case≡, eqb_self, eqb_sym}
use Rattle.arithmetic.proofs.Laws.Sum.{pick-zero, sum_ext, sum-zero, sum_zeros, sum_one, sum-add, sum_only}
use Rattle.rooted_tree.specs.Chain.{depth, is_child}
use Rattle.rooted_tree.specs.Steps.Rooted.{Rooted}
use Rattle.rooted_tree.proofs.Laws.Rooted.{depth-lt}
use Rattle.preorder.specs.Preorder.{preorder, tree_order}

-- how often x stands in a list
unfoldable count : ℕ → List ℕ → ℕ
count x [] = 0
count x (y ∷ l) = pick (eqb x y) 1 + count x l

-- each number of a list is below n
unfoldable pub Below : ℕ → List ℕ → Type 0
Below n [] = Unit
Below n (y ∷ l) = (y < n) × Below n l

count-append : (x : ℕ) (a b : List ℕ) → count x (a ++ b) ≡ count x a + count x b
unfolding count
count-append x [] b = omega arith
count-append x (y ∷ a) b = omega (arith, count-append x a b)

count-appended : (x m : ℕ) (f : ℕ → List ℕ) → count x (appended m f) ≡ sum m (λ c. count x (f c))
unfolding count appended sum
count-appended x zero f = refl
count-appended x (suc m) f = omega (arith, count-append x (appended m f) (f m), count-appended x m f)

count_where : (x : ℕ) (b : Bool) (l : List ℕ) → count x (cond b l []) ≡ pick b (count x l)
unfolding count
count_where x true l = refl
count_where x false l = refl

pick-add : (b : Bool) (u w : ℕ) → pick b (u + w) ≡ pick b u + pick b w
pick-add true u w = refl
pick-add false u w = refl

pick_swap : (a b : Bool) (u : ℕ) → pick a (pick b u) ≡ pick b (pick a u)
pick_swap true b u = refl
pick_swap false true u = refl
pick_swap false false u = refl

-- the root is nobody's child, and any other vertex its parent's
pub child_root : (p : ℕ → ℕ) (r v c : ℕ) → c ≡ r → is_child r p v c ≡ false
child_root p r v c e = rw (eq-eqb c r e)

pub child_inner : (p : ℕ → ℕ) (r v c : ℕ) → (c ≡ r → ⊥) → is_child r p v c ≡ eqb (p c) v
child_inner p r v c d = rw (ne_eqb c r d)

module _ (n r : ℕ) (p : ℕ → ℕ) where
  -- one level further down
  levels : (k v x : ℕ) → count x (preorder n r p (suc k) v) ≡ pick (eqb x v) 1 + sum n (λ c. pick (is_child r p v c) (count x (preorder n r p k c)))
  unfolding count preorder
  levels k v x =
      ap (λ (s : ℕ). pick (eqb x v) 1 + s)
      (count-appended x n (λ c. cond (is_child r p v c) (preorder n r p k c) [])
      ∙ sum_ext n _ _ (λ c _. count_where x (is_child r p v c) (preorder n r p k c)))

  no_levels : (v x : ℕ) → count x (preorder n r p 0 v) ≡ 0
  unfolding count preorder
  no_levels v x = refl

  -- a term of a sum over the children, where the rest is 0 at all vertices but the root
  no_root : (k v : ℕ) → ((c : ℕ) → (r ≡ c → ⊥) → count r (preorder n r p k c) ≡ 0)
      → sum n (λ c. pick (is_child r p v c) (count r (preorder n r p k c))) ≡ 0
  no_root k v ih =
      sum_zeros n _ (λ c _. case≡ c r (λ e. rw (child_root p r v c e)) (λ d. rw (ih c (λ q. d (sym q))) (pick-zero (is_child r p v c))))

  -- x itself, or x under its parent
  under : (k v x : ℕ) → x < n → (x ≡ r → ⊥) → count x (preorder n r p (suc k) v) ≡ pick (eqb x v) 1 + count (p x) (preorder n r p k v)
  under zero v x l d =
      omega (
        arith,
        levels 0 v x,
        no_levels v (p x),
        sum_zeros n (λ c. pick (is_child r p v c) (count x (preorder n r p 0 c))) (λ c _. rw (no_levels c x) (pick-zero (is_child r p v c))),
      )
  under (suc k) v x l d =
      omega (
        arith,
        levels (suc k) v x,
        levels k v (p x),
        sum_ext n (λ c. pick (is_child r p v c) (count x (preorder n r p (suc k) c))) (λ c. pick (eqb c x) (pick (is_child r p v c) 1) + pick (is_child r p v c) (count (p x) (preorder n r p k c)))
            (λ c _. rw (under k c x l d, pick-add, eqb_sym x c) (ap (λ (u : ℕ). u + pick (is_child r p v c) (count (p x) (preorder n r p k c))) (pick_swap (is_child r p v c) (eqb c x) 1))),
        sum-add n (λ c. pick (eqb c x) (pick (is_child r p v c) 1)) (λ c. pick (is_child r p v c) (count (p x) (preorder n r p k c))),
        sum_only n x (λ c. pick (is_child r p v c) 1) l,
        ap (λ (b : Bool). pick b 1) (child_inner p r v x d),
      )

  -- nothing has the root below it
  root_alone : (k v : ℕ) → (r ≡ v → ⊥) → count r (preorder n r p k v) ≡ 0
  root_alone zero v d = no_levels v r
  root_alone (suc k) v d = levels k v r ∙ rw (ne_eqb r v d) (omega (arith, no_root k v (λ c. root_alone k c)))

  root_once : (k : ℕ) → count r (preorder n r p (suc k) r) ≡ 1
  root_once k = levels k r r ∙ rw (eqb_self r) (omega (arith, no_root k r (λ c. root_alone k c)))

  -- within k levels of the root, each vertex stands once
  once_within : ((y : ℕ) → y < n → p y < n) → (k x : ℕ) → x < n → depth p r k x < k → count x (preorder n r p k r) ≡ 1
  unfolding depth
  once_within into zero x l h = absurd (omega arith)
  once_within into (suc k) x l h =
      case (eqb x r)
      (λ e. rw (eqb-true x r e) (root_once k))
      (λ e.
      let g : suc (depth p r k (p x)) < suc k = rw e at h in
      rw (under k r x l (eqb-false x r e), e) (omega (arith, once_within into k (p x) (into x l) (omega arith))))

  -- only vertices stand there
  below-append : (a b : List ℕ) → Below n a → Below n b → Below n (a ++ b)
  unfolding Below
  below-append [] b f g = g
  below-append (y ∷ a) b f g = (f.0, below-append a b f.1 g)

  below-appended : (m : ℕ) (f : ℕ → List ℕ) → ((c : ℕ) → c < m → Below n (f c)) → Below n (appended m f)
  unfolding appended Below
  below-appended zero f h = tt
  below-appended (suc m) f h = below-append (appended m f) (f m) (below-appended m f (λ c l. h c (omega arith))) (h m (omega arith))

  below_where : (b : Bool) (l : List ℕ) → Below n l → Below n (cond b l [])
  unfolding Below
  below_where true l h = h
  below_where false l h = tt

  pub vertices_only : (k v : ℕ) → v < n → Below n (preorder n r p k v)
  unfolding preorder Below
  vertices_only zero v l = tt
  vertices_only (suc k) v l =
      (l, below-appended n _ (λ c h. below_where (is_child r p v c) (preorder n r p k c) (vertices_only k c h)))

  pub children_only : (k v m : ℕ) → m ≤ n → Below n (appended m (λ c. cond (is_child r p v c) (preorder n r p k c) []))
  children_only k v m l =
      below-appended m _ (λ c h. below_where (is_child r p v c) (preorder n r p k c) (vertices_only k c (omega arith)))

  -- a list of vertices is as long as they stand in it
  counted : (l : List ℕ) → Below n l → length l ≡ sum n (λ x. count x l)
  unfolding count Below
  counted [] h = sym (sum-zero n)
  counted (y ∷ l) h =
      omega (arith, counted l h.1, sum-add n (λ x. pick (eqb x y) 1) (λ x. count x l), sum_only n y (λ x. 1) h.0)

-- a number that does not stand in a list, and one that does once
absent : (x : ℕ) (l : List ℕ) → count x l ≡ 0 → (j : ℕ) → j < length l → at l j ≡ x → ⊥
unfolding count
absent x [] h j k e = omega arith
absent x (y ∷ l) h zero k e = omega (arith, h, ap (λ (b : Bool). pick b 1) (eq-eqb x y (sym e)))
absent x (y ∷ l) h (suc j) k e = absent x l (omega (arith, h)) j (omega arith) e

single : (x : ℕ) (l : List ℕ) → count x l ≡ 1
    → (k : ℕ) × (k < length l) × (at l k ≡ x) × ((j : ℕ) → j < length l → at l j ≡ x → j ≡ k)
unfolding count
single x [] h = absurd (omega arith)
single x (y ∷ l) h =
    case (eqb x y)
    (λ e.
    let none : count x l ≡ 0 = omega (arith, rw e at h) in
    (0, omega arith, sym (eqb-true x y e), first none))
    (λ e.
    let one : count x l ≡ 1 = omega (arith, rw e at h) in
    let rest = single x l one in
    (suc rest.0, omega (arith, rest.1), rest.2, later (eqb-false x y e) rest))
  where
    first : count x l ≡ 0 → (j : ℕ) → j < suc (length l) → at (y ∷ l) j ≡ x → j ≡ 0
    first none zero k e = refl
    first none (suc j) k e = absurd (absent x l none j (omega arith) e)

    later : (x ≡ y → ⊥) → (rest : (k : ℕ) × (k < length l) × (at l k ≡ x) × ((j : ℕ) → j < length l → at l j ≡ x → j ≡ k))
        → (j : ℕ) → j < suc (length l) → at (y ∷ l) j ≡ x → j ≡ suc rest.0
    later d rest zero k e = absurd (d (sym e))
    later d rest (suc j) k e = ap suc (rest.3 j (omega arith) e)

module _ {n r : ℕ} {p : ℕ → ℕ} (tree : Rooted n r p) where
  appears_once : (x : ℕ) → x < n → count x (tree_order n r p) ≡ 1
  appears_once x l = once_within n r p tree.into n x l (depth-lt tree x l)

  -- the order has n places
  pub all_places : length (tree_order n r p) ≡ n
  all_places =
      counted n r p (tree_order n r p) (vertices_only n r p n r tree.root) ∙ sum_ext n _ (λ x. 1) appears_once ∙ sum_one n

  -- "Every vertex of the tree has its line, none has two": x stands in one of them, and in no other
  pub every_vertex_once : (x : ℕ) → x < n
      → (k : ℕ) × (k < n) × (at (tree_order n r p) k ≡ x) × ((j : ℕ) → j < n → at (tree_order n r p) j ≡ x → j ≡ k)
  every_vertex_once x l = rw all_places at (single x (tree_order n r p) (appears_once x l))
