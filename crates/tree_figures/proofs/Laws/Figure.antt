-- The figures of a tree in natural numbers: the imbalance is a difference of two sums, the cost is that of the flow, and the potential is what
-- it rises by above a vertex less what it falls by. So they follow from tables.
use Prim.Native.Nat.{ℕ, zero, suc, ◌+◌, ◌*◌, ◌^◌, ◌≤◌, ◌<◌}
use mathlib.Core.Path.{◌≡◌, refl, sym, ap, ◌∙◌}
use mathlib.Core.Bool.{Bool, true, false, not, ◌&&◌}
use mathlib.Core.List.{List}
use native.Mathlib.Nat.{mul-le-mul, mul-le-mul_right}
use native.Mathlib.Omega.{arith}
use lib.Dec.{eqb}
use lib.ListN.{length}
use lib.Signed.{mag}
use lib.IntN.{ℤ, pos, negsuc, nat_abs, sub_ℕ, ◌*ℤ◌}
use borrow.Author.Tests.{eq-eqb, ne_eqb}
use Rattle.arithmetic.specs.Sum.{pick, sum}
use Rattle.arithmetic.specs.Table.{at, tab}
use Rattle.arithmetic.specs.Mask.{mask}
use Rattle.arithmetic.specs.Steps.Fill.{Filled}
use Rattle.arithmetic.specs.Integer.{pick_ℤ}
use Rattle.arithmetic.specs.Steps.Product.{gap}
use Rattle.arithmetic.proofs.Laws.Bools.{case≡, eqb_self}
use Rattle.arithmetic.proofs.Laws.Sum.{pick-zero, pick-le, sum-nil, sum_step, sum_ext, sum-le-mul}
use Rattle.arithmetic.proofs.Laws.Table.{tab_ext}
use Rattle.arithmetic.proofs.Laws.Integer.{sub_cong, abs-sub, mag-sub-lt, sum_ℤ_ext, sum_ℤ-sub, pick_ℤ-sub, sub-zero, zero-sub}
use Rattle.rooted_tree.specs.Chain.{below}
use Rattle.rooted_tree.specs.Steps.Subtotal.{subtotal, inner}
use Rattle.rooted_tree.specs.Steps.Flow.{flow_cost}
use Rattle.rooted_tree.specs.Steps.Potential.{lengths_where}
use Rattle.rooted_tree.proofs.Laws.Subtotal.{subtotal-le, inner_ext, inner_most}
use Rattle.rooted_tree.proofs.Laws.Climb.{climbed-le, climbed_ext}
use Rattle.subtree_sums.specs.Steps.Sums.{holder_sum, Slopes, Heights}
use Rattle.subtree_sums.proofs.Laws.Heights.{holders_most, holders_ext, words_above}
use Rattle.graph.specs.Graph.{Graph}
use Rattle.arithmetic.specs.Steps.Table.{EachBelow}
use Rattle.tree_figures.specs.Figures.{imbalance, sign, to_parent, potential, tree_cost}
use Rattle.tree_figures.specs.Steps.Tables.{Short, LengthsTo, cost_from, rises, falls, slope, potential_from}

-- ---- the definitions in natural numbers
pub imbalance-sub : (n : ℕ) (p mu nu : ℕ → ℕ) (x : ℕ) → imbalance n p mu nu x ≡ sub_ℕ (subtotal p n mu x) (subtotal p n nu x)
unfolding imbalance subtotal
imbalance-sub n p mu nu x =
    sum_ℤ_ext n _ _ (λ y l. pick_ℤ-sub (below p n y x) (mu y) (nu y))
    ∙ sum_ℤ-sub n (λ y. pick (below p n y x) (mu y)) (λ y. pick (below p n y x) (nu y))

pub tree_cost_flow : (g : Graph) (r : ℕ) (p mu nu : ℕ → ℕ) → tree_cost g r p mu nu ≡ flow_cost g.n r p (to_parent g p) mu nu
unfolding tree_cost flow_cost
tree_cost_flow g r p mu nu =
    sum_ext g.n _ _ (λ x l. ap (λ (z : ℕ). inner r x (to_parent g p x * z))
    (ap nat_abs (imbalance-sub g.n p mu nu x) ∙ abs-sub (subtotal p g.n mu x) (subtotal p g.n nu x)))

sign-length : (z : ℤ) (l : ℕ) → sign z *ℤ pos l ≡ sub_ℕ (pick (rises z) l) (pick (falls z) l)
sign-length (pos zero) l = let e : 0 * l ≡ 0 = omega arith in rw e (sym (sub-zero 0))
sign-length (pos (suc k)) l = let e : 1 * l ≡ l = omega arith in rw e (sym (sub-zero l))
sign-length (negsuc k) l = let e : 1 * l ≡ l = omega arith in rw e (sym (zero-sub l))

pick_ℤ-and : (s t : Bool) (u v : ℕ) → pick_ℤ (s && t) (sub_ℕ u v) ≡ sub_ℕ (pick t (pick s u)) (pick t (pick s v))
pick_ℤ-and true t u v = pick_ℤ-sub t u v
pick_ℤ-and false true u v = refl
pick_ℤ-and false false u v = refl

pub potential-sub : (g : Graph) (r : ℕ) (p mu nu : ℕ → ℕ) (y : ℕ)
    → potential g r p mu nu y
    ≡ sub_ℕ (lengths_where g.n r p (to_parent g p) (λ x. rises (imbalance g.n p mu nu x)) y)
    (lengths_where g.n r p (to_parent g p) (λ x. falls (imbalance g.n p mu nu x)) y)
unfolding potential
potential-sub g r p mu nu y =
    sum_ℤ_ext g.n _ _ (λ x l.
    ap (λ (z : ℤ). pick_ℤ (not (eqb x r) && below p g.n y x) z) (sign-length (imbalance g.n p mu nu x) (to_parent g p x))
    ∙ pick_ℤ-and (not (eqb x r)) (below p g.n y x) _ _)
    ∙ sum_ℤ-sub g.n _ _

-- no sign is both
one_sign : (z : ℤ) (b : Bool) (v : ℕ) → 0 < pick b (pick (rises z) v) → pick b (pick (falls z) v) ≡ 0
one_sign (pos zero) b v h = pick-zero b
one_sign (pos (suc k)) b v h = pick-zero b
one_sign (negsuc k) b v h = absurd (omega (arith, h, pick-zero b))

-- ---- the same from tables
module _ (n : ℕ) (p mu nu a b : ℕ → ℕ) (mu-below : (x : ℕ) → x < n → a x ≡ subtotal p n mu x) (nu-below : (x : ℕ) → x < n → b x ≡ subtotal p n nu x) where
  pub imbalance_table : tab n (λ x. sub_ℕ (a x) (b x)) ≡ tab n (imbalance n p mu nu)
  imbalance_table = tab_ext n _ _ (λ x h. rw (mu-below x h, nu-below x h) (sym (imbalance-sub n p mu nu x)))

module _ (g : Graph) (r : ℕ) (p mu nu l : ℕ → ℕ) (lengths : LengthsTo g r p l) where
  pub cost_table : (a b : ℕ → ℕ) → ((x : ℕ) → x < g.n → a x ≡ subtotal p g.n mu x) → ((x : ℕ) → x < g.n → b x ≡ subtotal p g.n nu x)
      → cost_from g.n r l a b ≡ tree_cost g r p mu nu
  unfolding flow_cost
  cost_table a b mu-below nu-below =
      sum_ext g.n _ _ (inner_ext g.n r _ _ (λ x h d. rw (lengths x h d, mu-below x h, nu-below x h)))
      ∙ sym (tree_cost_flow g r p mu nu)

  pub potential_table : {old words : List ℕ} → Filled g.n (λ x. mask g.n (λ y. below p g.n y x)) old words
      → (z : ℕ → ℤ) → ((x : ℕ) → x < g.n → z x ≡ imbalance g.n p mu nu x)
      → tab g.n (potential_from g.n r (at words) l z) ≡ tab g.n (potential g r p mu nu)
  potential_table {words = words} filled z are = tab_ext g.n _ _ (λ y h. rw (same rises y h, same falls y h) (sym (potential-sub g r p mu nu y)))
    where
      same : (t : ℤ → Bool) (y : ℕ) → y < g.n → holder_sum g.n (at words) (slope r l (λ x. t (z x))) y
          ≡ lengths_where g.n r p (to_parent g p) (λ x. t (imbalance g.n p mu nu x)) y
      same t y h =
          words_above g.n p filled (slope r l (λ x. t (z x))) y h ∙ climbed_ext g.n r p _ _ y (λ x j d. rw (lengths x j d, are x j))

-- ---- the cost, edge by edge
pub cost_none : (r : ℕ) (l a b : ℕ → ℕ) → 0 ≡ cost_from 0 r l a b
cost_none r l a b = sym (sum-nil _)

-- the root adds nothing,
pub cost_root : (k r : ℕ) (l a b : ℕ → ℕ) (cost : ℕ) → cost ≡ cost_from k r l a b → k ≡ r → cost ≡ cost_from (k + 1) r l a b
cost_root k r l a b cost e s = rw (e, sum_step k (λ x. inner r x (l x * gap (a x) (b x))), eq-eqb k r s) (omega arith)

-- another vertex its length × |imbalance|
pub cost_edge : (k r : ℕ) (l a b : ℕ → ℕ) (cost u : ℕ) → cost ≡ cost_from k r l a b → (k ≡ r → ⊥) → u ≡ gap (a k) (b k)
    → cost + l k * u ≡ cost_from (k + 1) r l a b
cost_edge k r l a b cost u e d f = rw (e, f, sum_step k (λ x. inner r x (l x * gap (a x) (b x))), ne_eqb k r d)

-- ---- bounds
pub imbalance_moderate : (n : ℕ) (p mu nu : ℕ → ℕ) (x : ℕ) → sum n mu < 2 ^ 31 → sum n nu < 2 ^ 31 → mag (imbalance n p mu nu x) < 2 ^ 31
imbalance_moderate n p mu nu x h k =
    rw (imbalance-sub n p mu nu x)
    (mag-sub-lt (subtotal p n mu x) (subtotal p n nu x) (2 ^ 31) (omega (arith, subtotal-le p n mu x)) (omega (arith, subtotal-le p n nu x)))

module _ {n r : ℕ} {l : ℕ → ℕ} (few : n ≤ 64) (short : Short n r l) where
  -- the slopes of all vertices
  slopes_lt : (test : ℕ → Bool) → sum n (slope r l test) ≤ 2 ^ 22
  slopes_lt test =
      omega (
        arith,
        sum-le-mul n (2 ^ 16) (slope r l test) (λ x h.
            case≡ x r
            (λ e. rw (e, eqb_self r) (omega arith))
            (λ d. omega (arith, pick-le (not (eqb x r)) (pick (test x) (l x)), pick-le (test x) (l x), short x h d))),
        mul-le-mul_right (2 ^ 16) few,
      )

  -- tables of both, for the signs of z
  module _ (z : ℕ → ℤ) {old rising : List ℕ} (up : Filled n (slope r l (λ x. rises (z x))) old rising) {old' falling : List ℕ}
      (down : Filled n (slope r l (λ x. falls (z x))) old' falling) where
    pub slopes_are : n ≤ length old → n ≤ length old' → Slopes n (2 ^ 23) rising falling
    slopes_are h h' = record {
      long_rising = omega (arith, up.size);
      long_falling = omega (arith, down.size);
      apart = λ x k p. down.each x k ∙ one_sign (z x) (not (eqb x r)) (l x) (omega (arith, up.each x k));
      high = omega (arith, sum_ext n (at rising) _ up.each, slopes_lt (λ x. rises (z x)));
      deep = omega (arith, sum_ext n (at falling) _ down.each, slopes_lt (λ x. falls (z x)));
    }

    -- the heights above the ground are the potential
    pub heights_are : (words h : ℕ → ℕ) → Heights n (2 ^ 23) words (at rising) (at falling) h → (y : ℕ) → y < n
        → (sub_ℕ (h y) (2 ^ 23) ≡ potential_from n r words l z y) × (h y < 2 ^ 31)
    heights_are words h e y k =
        let rise = slope r l (λ x. rises (z x)) in
        let fall = slope r l (λ x. falls (z x)) in
        let u = holders_ext n words (at rising) rise y up.each in
        let d = holders_ext n words (at falling) fall y down.each in
        let m = holders_most words rise y n in (
          sub_cong (h y) (2 ^ 23) (holder_sum n words rise y) (holder_sum n words fall y) (omega (arith, e y k, u, d)),
          omega (arith, e y k, u, m, slopes_lt (λ x. rises (z x))),
        )

  -- the cost of the first k edges
  module _ (a b : ℕ → ℕ) (la : EachBelow n a (2 ^ 31)) (lb : EachBelow n b (2 ^ 31)) where
    edge_cost_lt : (x : ℕ) → x < n → inner r x (l x * gap (a x) (b x)) ≤ 2 ^ 47
    edge_cost_lt x h =
        case≡ x r
        (λ e. rw (e, eqb_self r) (omega arith))
        (λ d.
        let i : l x ≤ 2 ^ 16 = omega (arith, short x h d) in
        let j : gap (a x) (b x) ≤ 2 ^ 31 = omega (arith, la x h, lb x h) in
        omega (arith, pick-le (not (eqb x r)) (l x * gap (a x) (b x)), mul-le-mul i j))

    pub costs-lt : (k : ℕ) → k ≤ n → cost_from k r l a b < 2 ^ 63
    costs-lt k h =
        omega (
          arith,
          sum-le-mul k (2 ^ 47) (λ x. inner r x (l x * gap (a x) (b x))) (λ x j. edge_cost_lt x (omega arith)),
          mul-le-mul_right (2 ^ 47) h,
          mul-le-mul_right (2 ^ 47) few,
        )

-- the cost of a tree, which has n - 1 edges: each of at most `long` carries at most `total`
pub tree_cost_most : (g : Graph) (r : ℕ) (p mu nu : ℕ → ℕ) (long total : ℕ) → r < g.n → ((x : ℕ) → x < g.n → to_parent g p x ≤ long)
    → sum g.n mu ≤ total → sum g.n nu ≤ total → tree_cost g r p mu nu + long * total ≤ g.n * (long * total)
unfolding flow_cost
tree_cost_most g r p mu nu long total h short before after =
    let carried : ℕ → ℕ = λ x. gap (subtotal p g.n mu x) (subtotal p g.n nu x) in
    omega (
      arith,
      tree_cost_flow g r p mu nu,
      inner_most g.n r (long * total) (λ x. to_parent g p x * carried x) h (λ x l.
          let light : carried x ≤ total = omega (arith, subtotal-le p g.n mu x, subtotal-le p g.n nu x) in
          mul-le-mul (short x l) light),
    )

-- an imbalance is at most the total, either way,
pub imbalance_most : (n : ℕ) (p mu nu : ℕ → ℕ) (x total : ℕ) → sum n mu ≤ total → sum n nu ≤ total → nat_abs (imbalance n p mu nu x) ≤ total
imbalance_most n p mu nu x total before after =
    rw (imbalance-sub n p mu nu x, abs-sub) (omega (arith, subtotal-le p n mu x, subtotal-le p n nu x))

-- and a potential n - 1 lengths
pub potential_most : (g : Graph) (r : ℕ) (p mu nu : ℕ → ℕ) (y long : ℕ) → r < g.n → ((x : ℕ) → x < g.n → to_parent g p x ≤ long)
    → nat_abs (potential g r p mu nu y) + long ≤ g.n * long
potential_most g r p mu nu y long h short =
    let most : (t : ℤ → Bool) → lengths_where g.n r p (to_parent g p) (λ x. t (imbalance g.n p mu nu x)) y + long ≤ g.n * long
    = λ t.
    let up : ℕ → ℕ = λ x. pick (t (imbalance g.n p mu nu x)) (to_parent g p x) in
    omega (
      arith,
      climbed-le g.n r p up y,
      inner_most g.n r long up h (λ x l. omega (arith, pick-le (t (imbalance g.n p mu nu x)) (to_parent g p x), short x l)),
    ) in
    rw (potential-sub g r p mu nu y, abs-sub) (omega (arith, most rises, most falls))
