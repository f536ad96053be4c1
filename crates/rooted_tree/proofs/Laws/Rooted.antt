-- Rooted trees given by parents, the relation "is below" and the depth.
use mathlib.Core.Path.{◌≡◌, refl, sym, ap, ◌∙◌}
use mathlib.Core.Bool.{Bool, true, false, cond, ◌||◌}
use Prim.Native.Nat.{ℕ, zero, suc, ◌+◌, ◌≤◌, ◌<◌}
use native.Mathlib.Omega.{arith}
use lib.Dec.{eqb, ltb}
use borrow.Author.Tests.{eqb-true, ne_eqb, lt-ltb, le-ltb, ltb-true}
use Rattle.arithmetic.specs.Sum.{pick, sum}
use Rattle.arithmetic.proofs.Laws.Bools.{case, case≡, clash, is_false, or_elim, or_right, or_same, or_true_r, eqb_self}
use Rattle.arithmetic.proofs.Laws.Sum.{pick-le, sum_ext, sum-le, sum_lt, sum_one, sum-add, sum_only'}
use Rattle.rooted_tree.specs.Chain.{climb, below, depth}
use Rattle.rooted_tree.specs.Steps.Rooted.{Rooted, path_sum}

below-climb : (p : ℕ → ℕ) (k y x : ℕ) → below p k y x ≡ true → (j : ℕ) × (climb p j y ≡ x)
unfolding below climb
below-climb p zero y x h = (0, eqb-true y x h)
below-climb p (suc k) y x h =
    or_elim (eqb y x) (below p k (p y) x) h
    (λ e. (0, eqb-true y x e))
    (λ e. let z = below-climb p k (p y) x e in (suc z.0, z.1))

-- once the chain has reached the root, more steps do not change the depth
depth_more : (p : ℕ → ℕ) (r k y : ℕ) → climb p k y ≡ r → depth p r (suc k) y ≡ depth p r k y
unfolding depth climb
depth_more p r zero y e = rw (e, eqb_self r)
depth_more p r (suc k) y e = ap (λ (d : ℕ). cond (eqb y r) 0 (suc d)) (depth_more p r k (p y) e)

module _ {n r : ℕ} {p : ℕ → ℕ} (t : Rooted n r p) where
  induction_by : (P : ℕ → Type 0) → P r → ((y : ℕ) → y < n → (y ≡ r → ⊥) → P (p y) → P y) → (k y : ℕ) → y < n → climb p k y ≡ r → P y
  unfolding climb
  induction_by P base step zero y l e = rw e base
  induction_by P base step (suc k) y l e =
      case≡ y r (λ q. rw q base) (λ d. step y l d (induction_by P base step k (p y) (t.into y l) e))

  -- what holds at the root, and passes from a parent to its child, holds at every vertex
  pub tree_ind : (P : ℕ → Type 0) → P r → ((y : ℕ) → y < n → (y ≡ r → ⊥) → P (p y) → P y) → (y : ℕ) → y < n → P y
  tree_ind P base step y l = induction_by P base step n y l (t.up y l)

  below_root : (k x : ℕ) → below p k r x ≡ eqb r x
  unfolding below
  below_root zero x = refl
  below_root (suc k) x = rw (t.stay, below_root k x, or_same)

  below_more : (k y x : ℕ) → climb p k y ≡ r → below p (suc k) y x ≡ below p k y x
  unfolding below climb
  below_more zero y x e = rw (e, t.stay, or_same)
  below_more (suc k) y x e = ap (λ (b : Bool). eqb y x || b) (below_more k (p y) x e)

  -- the two equations of "is below"
  pub at_root : (x : ℕ) → below p n r x ≡ eqb r x
  at_root x = below_root n x

  pub at-step : (y x : ℕ) → y < n → below p n y x ≡ eqb y x || below p n (p y) x
  unfolding below
  at-step y x l = sym (below_more n y x (t.up y l))

  -- they have one solution
  pub unique : (x : ℕ) (f : ℕ → Bool) → f r ≡ eqb r x → ((y : ℕ) → y < n → (y ≡ r → ⊥) → f y ≡ eqb y x || f (p y))
      → (y : ℕ) → y < n → f y ≡ below p n y x
  unique x f base step =
      tree_ind (λ y. f y ≡ below p n y x) (base ∙ sym (at_root x)) (λ y l d h. rw (step y l d, at-step y x l, h))

  pub refl_b : (x : ℕ) → x < n → below p n x x ≡ true
  refl_b x l = rw (at-step x x l, eqb_self x)

  pub up_b : (y x : ℕ) → y < n → below p n (p y) x ≡ true → below p n y x ≡ true
  up_b y x l h = rw at-step (or_true_r (eqb y x) _ h)

  pub parent_b : (y : ℕ) → y < n → below p n y (p y) ≡ true
  parent_b y l = up_b y (p y) l (refl_b (p y) (t.into y l))

  -- what is below x, and is not x, has a parent below x
  pub down_b : (y x : ℕ) → y < n → below p n y x ≡ true → (y ≡ x → ⊥) → below p n (p y) x ≡ true
  down_b y x l h d = or_right (eqb y x) _ (rw (← (at-step y x l)) h) (ne_eqb y x d)

  -- the root is below itself alone
  pub root_b : (x : ℕ) → below p n r x ≡ true → r ≡ x
  root_b x h = eqb-true r x (sym (at_root x) ∙ h)

  pub not_root : (x y : ℕ) → (r ≡ x → ⊥) → below p n y x ≡ true → y ≡ r → ⊥
  not_root x y d h e = d (root_b x (rw e at h))

  pub trans_b : (x z y : ℕ) → y < n → below p n y x ≡ true → below p n x z ≡ true → below p n y z ≡ true
  trans_b x z =
      tree_ind (λ y. below p n y x ≡ true → below p n x z ≡ true → below p n y z ≡ true)
      (λ h k. rw (root_b x h) k)
      (λ y l d ih h k. case≡ y x (λ e. rw e k) (λ ne. up_b y z l (ih (down_b y x l h ne) k)))

  -- what is not below z is below nothing that is
  pub out-b : (x z y : ℕ) → y < n → below p n x z ≡ true → below p n y z ≡ false → below p n y x ≡ false
  out-b x z y l h e = is_false _ (λ k. clash (trans_b x z y l k h) e)

  -- every vertex is below the root
  pub all-b : (y : ℕ) → y < n → below p n y r ≡ true
  all-b = tree_ind (λ y. below p n y r ≡ true) (refl_b r t.root) (λ y l d h. up_b y r l h)

  -- only a vertex is above a vertex
  pub above_in : (x y : ℕ) → y < n → below p n y x ≡ true → x < n
  above_in x =
      tree_ind (λ y. below p n y x ≡ true → x < n)
      (λ h. rw (root_b x h) at t.root)
      (λ y l d ih h. case≡ y x (λ e. rw e at l) (λ ne. ih (down_b y x l h ne)))

  -- two vertices above one are comparable
  pub comparable : (x z y : ℕ) → y < n → below p n y x ≡ true → below p n y z ≡ true → below p n x z ≡ false → below p n z x ≡ true
  comparable x z =
      tree_ind (λ y. below p n y x ≡ true → below p n y z ≡ true → below p n x z ≡ false → below p n z x ≡ true)
      (λ h k f. clash (rw (← (root_b x h)) k) f)
      (λ y l d ih h k f.
      case≡ y x (λ e. clash (rw (← e) k) f) (λ ne.
      case≡ y z (λ e. rw (← e) h) (λ nf. ih (down_b y x l h ne) (down_b y z l k nf) f)))

  -- below x is what meets x going up through parents, by any number of steps. Not cited: shows that the definition of `below` means what
  -- document 01 says
  pub below_met : (y x : ℕ) → below p n y x ≡ true → (k : ℕ) × (climb p k y ≡ x)
  below_met y x h = below-climb p n y x h

  pub met_below : (k y x : ℕ) → y < n → climb p k y ≡ x → below p n y x ≡ true
  unfolding climb
  met_below zero y x l e = rw (← e) (refl_b y l)
  met_below (suc k) y x l e = up_b y x l (met_below k (p y) x (t.into y l) e)

  -- ---- the depth

  -- the depth of a vertex is one more than its parent's
  pub depth-step : (y : ℕ) → y < n → (y ≡ r → ⊥) → depth p r n y ≡ suc (depth p r n (p y))
  unfolding depth
  depth-step y l d = sym (depth_more p r n y (t.up y l)) ∙ rw (ne_eqb y r d)

  depth_at_root : (k : ℕ) → depth p r k r ≡ 0
  unfolding depth
  depth_at_root zero = refl
  depth_at_root (suc k) = rw (eqb_self r)

  pub depth_root : depth p r n r ≡ 0
  depth_root = depth_at_root n

  pub depth_mono : (x y : ℕ) → y < n → below p n y x ≡ true → depth p r n x ≤ depth p r n y
  depth_mono x =
      tree_ind (λ y. below p n y x ≡ true → depth p r n x ≤ depth p r n y)
      (λ h. rw (root_b x h) (omega arith))
      (λ y l d ih h. case≡ y x (λ e. rw e (omega arith)) (λ ne. omega (arith, ih (down_b y x l h ne), depth-step y l d)))

  pub depth_strict : (x y : ℕ) → y < n → below p n y x ≡ true → (y ≡ x → ⊥) → depth p r n x < depth p r n y
  depth_strict x y l h ne =
      omega (arith, depth_mono x (p y) (t.into y l) (down_b y x l h ne), depth-step y l (λ e. ne (e ∙ root_b x (rw e at h))))

  pub antisym : (x y : ℕ) → x < n → y < n → below p n y x ≡ true → below p n x y ≡ true → y ≡ x
  antisym x y k l h g =
      case≡ y x (λ e. e) (λ ne. absurd (omega (arith, depth_strict x y l h ne, depth_mono y x k g)))

  -- no vertex but the root is above its parent
  pub parent_out : (y : ℕ) → y < n → (y ≡ r → ⊥) → below p n (p y) y ≡ false
  parent_out y l d = is_false _ (λ h. omega (arith, depth-step y l d, depth_mono y (p y) (t.into y l) h))

  -- ---- sums over the vertices above y
  pub path-sum_root : (f : ℕ → ℕ) → path_sum p n f r ≡ f r
  path-sum_root f = sum_ext n _ _ (λ x l. rw (at_root x)) ∙ sum_only' n r f t.root

  pub path-sum-step : (f : ℕ → ℕ) (y : ℕ) → y < n → (y ≡ r → ⊥) → path_sum p n f y ≡ f y + path_sum p n f (p y)
  path-sum-step f y l d =
      sum_ext n _ (λ x. pick (eqb y x) (f x) + pick (below p n (p y) x) (f x)) (λ x k. split x)
      ∙ sum-add n (λ x. pick (eqb y x) (f x)) (λ x. pick (below p n (p y) x) (f x))
      ∙ ap (λ (s : ℕ). s + path_sum p n f (p y)) (sum_only' n y f l)
    where
      split : (x : ℕ) → pick (below p n y x) (f x) ≡ pick (eqb y x) (f x) + pick (below p n (p y) x) (f x)
      split x =
          case≡ y x
          (λ e. rw (← e, refl_b y l, eqb_self y, parent_out y l d) (omega arith))
          (λ ne. rw (at-step y x l, ne_eqb y x ne) (omega arith))

  -- a chain has as many vertices as its depth, and one
  depth-count : (y : ℕ) → y < n → path_sum p n (λ x. 1) y ≡ suc (depth p r n y)
  depth-count =
      tree_ind (λ y. path_sum p n (λ x. 1) y ≡ suc (depth p r n y))
      (omega (arith, path-sum_root (λ x. 1), depth_root))
      (λ y l d h. omega (arith, h, path-sum-step (λ x. 1) y l d, depth-step y l d))

  pub depth-lt : (y : ℕ) → y < n → depth p r n y < n
  depth-lt y l =
      omega (
        arith,
        depth-count y l,
        sum_one n,
        sum-le n (λ x. pick (below p n y x) 1) (λ x. 1) (λ x k. pick-le (below p n y x) 1),
      )

-- ---- a rank that falls from each vertex but the root to its parent makes a tree
climb-stay : (r : ℕ) (p : ℕ → ℕ) → p r ≡ r → (k : ℕ) → climb p k r ≡ r
unfolding climb
climb-stay r p stay zero = refl
climb-stay r p stay (suc k) = rw (stay, climb-stay r p stay k)

module _ (n r : ℕ) (p rank : ℕ → ℕ) (root : r < n) (stay : p r ≡ r) (into : (y : ℕ) → y < n → p y < n) where
  climb_rank : (rk : ℕ → ℕ) → ((y : ℕ) → y < n → (y ≡ r → ⊥) → rk (p y) < rk y) → (k y : ℕ) → y < n → rk y ≤ k → climb p k y ≡ r
  unfolding climb
  climb_rank rk falls zero y l h = case≡ y r (λ e. e) (λ d. absurd (omega (arith, falls y l d)))
  climb_rank rk falls (suc k) y l h =
      case≡ y r (λ e. rw (e, stay, climb-stay r p stay k)) (λ d. climb_rank rk falls k (p y) (into y l) (omega (arith, falls y l d)))

  -- how many vertices have a rank below k: a rank that is at most n
  count : ℕ → ℕ
  count k = sum n (λ z. pick (ltb (rank z) k) 1)

  test_mono : (a b c : ℕ) → b ≤ c → pick (ltb a b) 1 ≤ pick (ltb a c) 1
  test_mono a b c h =
      case (ltb a b) (λ e. rw (e, lt-ltb a c (omega (arith, ltb-true a b e))) (omega arith)) (λ e. rw e (omega arith))

  count-lt : (y k : ℕ) → y < n → rank y < k → count (rank y) < count k
  unfolding count
  count-lt y k l h =
      sum_lt n _ _ y l (rw (le-ltb (rank y) (rank y) (omega arith), lt-ltb (rank y) k h) (omega arith))
      (λ i _. test_mono (rank i) (rank y) k (omega arith))

  count-le : (k : ℕ) → count k ≤ n
  unfolding count
  count-le k =
      omega (arith, sum_one n, sum-le n (λ z. pick (ltb (rank z) k) 1) (λ _. 1) (λ i _. pick-le (ltb (rank i) k) 1))

  pub rooted_of_rank : ((y : ℕ) → y < n → (y ≡ r → ⊥) → rank (p y) < rank y) → Rooted n r p
  rooted_of_rank falls = record {
    root = root;
    stay = stay;
    into = into;
    up = λ y l. climb_rank (λ z. count (rank z)) (λ z k d. count-lt (p z) (rank z) (into z k) (falls z k d)) n y l (count-le (rank y));
  }

pub climb_on : (r : ℕ) (p : ℕ → ℕ) → p r ≡ r → (k m x : ℕ) → k ≤ m → climb p k x ≡ r → climb p m x ≡ r
unfolding climb
climb_on r p e zero m x l h = rw h (climb-stay r p e m)
climb_on r p e (suc k) zero x l h = absurd (omega arith)
climb_on r p e (suc k) (suc m) x l h = climb_on r p e k m (p x) (omega arith) h

depth_falls : (r : ℕ) (p : ℕ → ℕ) (k y : ℕ) → climb p k y ≡ r → (y ≡ r → ⊥) → depth p r k (p y) < depth p r k y
unfolding depth climb
depth_falls r p zero y e d = absurd (d e)
depth_falls r p (suc k) y e d = rw (ne_eqb y r d) (omega (arith, depth_more p r k (p y) e))

module _ (n r : ℕ) (p : ℕ → ℕ) (root : r < n) (stay : p r ≡ r) (into : (x : ℕ) → x < n → p x < n)
    (chain : (x : ℕ) → x < n → (k : ℕ) × (climb p k x ≡ r)) where
  -- a number of steps that leads from every vertex to the root
  steps : (m : ℕ) → m ≤ n → (k : ℕ) × ((x : ℕ) → x < m → climb p k x ≡ r)
  steps zero l = (0, λ x k. absurd (omega arith))
  steps (suc m) l =
      let a = steps m (omega arith) in
      let b = chain m (omega arith) in (
        a.0 + b.0,
        λ x k. case≡ x m
            (λ e. rw e (climb_on r p stay b.0 (a.0 + b.0) m (omega arith) b.1))
            (λ d. climb_on r p stay a.0 (a.0 + b.0) x (omega arith) (a.1 x (omega arith))),
      )

  pub chains_rooted : Rooted n r p
  chains_rooted =
      let k = steps n (omega arith) in
      rooted_of_rank n r p (depth p r k.0) root stay into (λ y l d. depth_falls r p k.0 y (k.1 y l) d)
