-- The figures of a tree, its plan and its checks depend on the values at the vertices below n alone.
use Prim.Native.Nat.{ℕ, zero, suc, ◌*◌, ◌<◌}
use mathlib.Core.Path.{◌≡◌, refl, sym, ap, ◌∙◌}
use mathlib.Core.Bool.{Bool, true, not, cond, ◌||◌}
use native.Mathlib.Omega.{arith}
use lib.Dec.{eqb, ltb}
use lib.IntN.{ℤ}
use borrow.Author.Tests.{ltb-true, le-ltb}
use Rattle.arithmetic.specs.Bools.{all}
use Rattle.arithmetic.specs.Refusal.{refusal}
use Rattle.arithmetic.proofs.Laws.Bools.{case, case<, all-at, and_l, and_r}
use Rattle.arithmetic.proofs.Laws.Sum.{sum_ext}
use Rattle.arithmetic.proofs.Laws.Integer.{sum_ℤ_ext}
use Rattle.rooted_tree.specs.Chain.{climb, below, depth}
use Rattle.graph.specs.Graph.{Graph, joined}
use Rattle.graph.specs.SpanningTree.{SpanningTree}
use Rattle.graph.specs.Distance.{distance}
use Rattle.tree_checks.specs.Checks.{parents_ok, tree_edges_ok, chains_ok, tree_checks}
use Rattle.measures.specs.Checks.{total_ok, totals_equal, measure_checks}
use Rattle.plan_rule.specs.Plan.{plan}
use Rattle.plan_rule.proofs.Laws.Agreement.{plan_same as rule-same}
use Rattle.tree_figures.specs.Figures.{imbalance, potential, tree_cost}
use Rattle.duality.specs.Best.{plan_cost, Best}
use Rattle.duality.specs.Steps.Best.{Certificate}

-- f and g agree below n
abbrev pub Same : {A : Type 0} → ℕ → (ℕ → A) → (ℕ → A) → Type 0
Same n f g = (x : ℕ) → x < n → f x ≡ g x

-- ---- trees

-- p and q are the same tree on the vertices below n
pub record SameTree (n r : ℕ) (p q : ℕ → ℕ) : Type 0 where
  pub parents : Same n p q
  pub subtrees : (y x : ℕ) → y < n → below p n y x ≡ below q n y x
  pub depths : Same n (depth p r n) (depth q r n)

pub itself : (n r : ℕ) (p : ℕ → ℕ) → SameTree n r p p
itself n r p = record { parents = λ x l. refl; subtrees = λ y x l. refl; depths = λ x l. refl }

module _ {n : ℕ} {p q : ℕ → ℕ} (same : Same n p q) (into : (x : ℕ) → x < n → p x < n) where
  climb_same : (k : ℕ) → Same n (climb p k) (climb q k)
  unfolding climb
  climb_same zero y l = refl
  climb_same (suc k) y l = climb_same k (p y) (into y l) ∙ ap (climb q k) (same y l)

  below_same : (k y x : ℕ) → y < n → below p k y x ≡ below q k y x
  unfolding below
  below_same zero y x l = refl
  below_same (suc k) y x l =
      ap (λ (b : Bool). eqb y x || b) (below_same k (p y) x (into y l) ∙ ap (λ (z : ℕ). below q k z x) (same y l))

  depth_same : (r k : ℕ) → Same n (depth p r k) (depth q r k)
  unfolding depth
  depth_same r zero y l = refl
  depth_same r (suc k) y l =
      ap (λ (d : ℕ). cond (eqb y r) 0 (suc d)) (depth_same r k (p y) (into y l) ∙ ap (depth q r k) (same y l))

  pub same_tree : (r : ℕ) → SameTree n r p q
  same_tree r = record { parents = same; subtrees = below_same n; depths = depth_same r n }

-- ---- weighing
module _ (g : Graph) {r : ℕ} {p q mu mu' nu nu' : ℕ → ℕ} (tree : SameTree g.n r p q) (before : Same g.n mu mu')
    (after : Same g.n nu nu') where
  imbalance_same : (x : ℕ) → imbalance g.n p mu nu x ≡ imbalance g.n q mu' nu' x
  unfolding imbalance
  imbalance_same x = sum_ℤ_ext g.n _ _ (λ y l. rw (tree.subtrees y x l, before y l, after y l))

  pub tree_cost_same : tree_cost g r p mu nu ≡ tree_cost g r q mu' nu'
  unfolding tree_cost
  tree_cost_same = sum_ext g.n _ _ (λ x l. rw (tree.parents x l, imbalance_same x))

  pub potential_same : Same g.n (potential g r p mu nu) (potential g r q mu' nu')
  unfolding potential
  potential_same y h = sum_ℤ_ext g.n _ _ (λ x l. rw (tree.subtrees y x h, tree.parents x l, imbalance_same x))

-- ---- the plan
pub plan_same : {n r : ℕ} {p q : ℕ → ℕ} → SameTree n r p q → {mu mu' nu nu' : ℕ → ℕ} → Same n mu mu' → Same n nu nu'
    → (i j : ℕ) → i < n → j < n → plan n r p mu nu i j ≡ plan n r q mu' nu' i j
plan_same {n} {r} {p} {q} tree = rule-same n r p q _ _ _ _ tree.depths (λ x y _ l. tree.subtrees y x l)

-- ---- checks 6 to 10
pub measures_same : (n : ℕ) {mu mu' nu nu' : ℕ → ℕ} → Same n mu mu' → Same n nu nu' → measure_checks n mu nu ≡ measure_checks n mu' nu'
unfolding measure_checks total_ok totals_equal
measures_same n before after = rw (sum_ext n _ _ before, sum_ext n _ _ after)

all_same : (n : ℕ) (f g : ℕ → Bool) → Same n f g → all n f ≡ all n g
unfolding all
all_same zero f g h = refl
all_same (suc n) f g h = rw (all_same n f g (λ x l. h x (omega arith)), h n (omega arith))

module _ (g : Graph) (r : ℕ) {p q : ℕ → ℕ} (same : Same g.n p q) where
  parents_ok_same : parents_ok g.n r p ≡ parents_ok g.n r q
  unfolding parents_ok
  parents_ok_same =
      case< r g.n
      (λ h. rw (
        same r h,
        all_same g.n (λ x. ltb (p x) g.n) (λ x. ltb (q x) g.n) (λ x l. rw (same x l)),
        all_same g.n (λ x. eqb x r || not (eqb (p x) x)) (λ x. eqb x r || not (eqb (q x) x)) (λ x l. rw (same x l)),
      ))
      (λ h. rw (le-ltb r g.n h))

  -- what check 8 says of the parents and the root
  pub parents_into : parents_ok g.n r p ≡ true → (r < g.n) × ((x : ℕ) → x < g.n → p x < g.n)
  unfolding parents_ok
  parents_into h =
      let rest = and_r (ltb r g.n) _ h in (
        ltb-true r g.n (and_l (ltb r g.n) _ h),
        λ x l. ltb-true (p x) g.n (all-at g.n _ (and_l (all g.n (λ x. ltb (p x) g.n)) _ rest) x l),
      )

  edges_same : tree_edges_ok g r p ≡ tree_edges_ok g r q
  unfolding tree_edges_ok
  edges_same = all_same g.n _ _ (λ x l. rw (same x l))

  chains_same : ((x : ℕ) → x < g.n → p x < g.n) → chains_ok g.n r p ≡ chains_ok g.n r q
  unfolding chains_ok
  chains_same into = all_same g.n _ _ (λ x l. rw (climb_same same into g.n x l))

  pub tree_same : refusal (tree_checks g r p) ≡ refusal (tree_checks g r q)
  unfolding refusal tree_checks
  tree_same =
      case (parents_ok g.n r p)
      (λ e. rw (← parents_ok_same, edges_same, chains_same (parents_into e).1))
      (λ e. rw (← parents_ok_same, e))

-- ---- certificates
module _ (g : Graph) {p q : ℕ → ℕ} (same : Same g.n p q) (into : (x : ℕ) → x < g.n → p x < g.n) where
  spanning_same : {r : ℕ} → SpanningTree g r p → SpanningTree g r q
  spanning_same {r} t = record {
    root = t.root;
    stay = sym (same r t.root) ∙ t.stay;
    edge = λ x l d. ap (joined g x) (sym (same x l)) ∙ t.edge x l d;
    chain = λ x l. ((t.chain x l).0, sym (climb_same same into (t.chain x l).0 x l) ∙ (t.chain x l).1);
  }

  pub certificate_same : {mu nu U : ℕ → ℕ} → Certificate g mu nu p U → Certificate g mu nu q U
  certificate_same {mu} {nu} c = record {
    spanning = spanning_same c.spanning;
    within = c.within;
    weighs = rw (← tree_cost_same g {mu = mu} {mu' = mu} {nu = nu} {nu' = nu} (same_tree same into 0) (λ x l. refl) (λ x l. refl)) c.weighs;
  }

-- ---- demand 3
plan_cost_same : (g : Graph) (t t' : ℕ → ℕ → ℕ) → ((i j : ℕ) → i < g.n → j < g.n → t i j ≡ t' i j) → plan_cost g t ≡ plan_cost g t'
unfolding plan_cost
plan_cost_same g t t' h = sum_ext g.n _ _ (λ i l. sum_ext g.n _ _ (λ j k. ap (λ (x : ℕ). x * distance g i j) (h i j l k)))

module _ {g : Graph} {mu mu' nu nu' p : ℕ → ℕ} {t t' : ℕ → ℕ → ℕ} {u : ℕ → ℤ} {cost : ℕ} (before : Same g.n mu mu')
    (after : Same g.n nu nu') (entries : (i j : ℕ) → i < g.n → j < g.n → t i j ≡ t' i j) where
  pub best_same : Best g mu nu p t u cost → Best g mu' nu' p t' u cost
  best_same b = record {
    carries = record {
      rows = λ i l. sym (sum_ext g.n _ _ (λ j k. entries i j l k)) ∙ b.carries.rows i l ∙ before i l;
      columns = λ j l. sym (sum_ext g.n _ _ (λ i k. entries i j k l)) ∙ b.carries.columns j l ∙ after j l;
    };
    least_plan = λ v c.
        rw (← plan_cost_same g t t' entries)
        (b.least_plan v (record { rows = λ i l. c.rows i l ∙ sym (before i l); columns = λ j l. c.columns j l ∙ sym (after j l) }));
    spanning = b.spanning;
    least_tree = λ r q s.
        rw (← tree_cost_same g (itself g.n 0 p) before after, ← tree_cost_same g (itself g.n r q) before after) (b.least_tree r q s);
    plan_cost_is = sym (plan_cost_same g t t' entries) ∙ b.plan_cost_is;
    tree_cost_is = sym (tree_cost_same g (itself g.n 0 p) before after) ∙ b.tree_cost_is;
    zero_at_0 = b.zero_at_0;
    within = b.within;
    weighs = sum_ℤ_ext g.n _ _ (λ y l. rw (before y l, after y l)) ∙ b.weighs;
  }
