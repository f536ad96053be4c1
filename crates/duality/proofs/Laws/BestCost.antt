-- The best cost of an accepted graph: some spanning tree has it, none costs less, and a cost that demand 3 holds of is it.
use Prim.Native.Nat.{ℕ, zero, suc, ◌≤◌, ◌<◌}
use mathlib.Core.Path.{◌≡◌, refl, sym, ap, ◌∙◌}
use mathlib.Core.Logic.{⊎_elim}
use mathlib.Core.List.Memᴰ
use mathlib.Core.List.{List, [], ◌∷◌, ◌++◌, flat_map, Memᴰ}
use native.Mathlib.Omega.{arith}
use lib.Dec.{eqb}
use lib.IntN.{ℤ}
use borrow.Author.Tests.{eqb-true}
use Rattle.arithmetic.specs.Refusal.{refusal}
use Rattle.arithmetic.specs.Table.{at, tab}
use Rattle.arithmetic.proofs.Laws.Bools.{case, case≡, case≤}
use Rattle.arithmetic.proofs.Laws.Table.{tab-at}
use Rattle.graph.specs.Graph.{Graph}
use Rattle.graph.specs.SpanningTree.{SpanningTree}
use Rattle.graph.specs.Steps.Accepted.{Accepted}
use Rattle.graph.proofs.Laws.Spanned.{spanned}
use Rattle.tree_checks.specs.Checks.{tree_checks}
use Rattle.tree_checks.proofs.Laws.TreeTests.{spanning_into, spanning_accepted, accepted_spanning}
use Rattle.tree_figures.specs.Figures.{tree_cost}
use Rattle.duality.specs.Best.{Plan, plan_cost, LeastTree, LeastPlan, Best}
use Rattle.duality.specs.BestCost.{least, parent_tables, cost_of, costs, best_cost}
use Rattle.duality.proofs.Laws.Agree.{Same, same_tree, tree_cost_same, tree_same}

-- ---- lists

-- x is in l
abbrev In : {A : Type 0} → A → List A → Type 0
In x l = Memᴰ x l

tab_in : {A : Type 0} (m : ℕ) (f : ℕ → A) (i : ℕ) → i < m → In (f i) (tab m f)
unfolding tab
tab_in zero f i l = absurd (omega arith)
tab_in (suc m) f i l =
    case≡ i m
    (λ e. Memᴰ.append_right (tab m f) (Memᴰ.head (ap f e)))
    (λ d. Memᴰ.append_left (f m ∷ []) (tab_in m f i (omega arith)))

module _ {A B : Type 0} (f : A → List B) where
  flat_map_in : {x : A} {y : B} (l : List A) → In x l → In y (f x) → In y (flat_map f l)
  unfolding flat_map
  flat_map_in [] h m = absurd (Memᴰ.not-nil h)
  flat_map_in (z ∷ l) h m =
      ⊎_elim
      (λ e. Memᴰ.append_left (flat_map f l) (rw e at m))
      (λ k. Memᴰ.append_right (f z) (flat_map_in l k m))
      (Memᴰ.cases_cons h)

  flat_map_from : {y : B} (l : List A) → In y (flat_map f l) → (x : A) × In y (f x)
  unfolding flat_map
  flat_map_from [] h = absurd (Memᴰ.not-nil h)
  flat_map_from (z ∷ l) h = ⊎_elim (λ m. (z, m)) (λ m. flat_map_from l m) (Memᴰ.append_cases (f z) h)

-- the least of a list that has any number is at most each, and is in it
least-below : (l : List ℕ) {y : ℕ} → In y l → least l ≤ y
unfolding least
least-below [] h = absurd (Memᴰ.not-nil h)
least-below (x ∷ []) h = omega (arith, Memᴰ.eq_of_singleton h)
least-below (x ∷ z ∷ l) h = ⊎_elim (λ e. omega arith) (λ k. omega (arith, least-below (z ∷ l) k)) (Memᴰ.cases_cons h)

least_in : (l : List ℕ) {y : ℕ} → In y l → In (least l) l
unfolding least
least_in [] h = absurd (Memᴰ.not-nil h)
least_in (x ∷ []) h = Memᴰ.head refl
least_in (x ∷ z ∷ l) h =
    case≤ x (least (z ∷ l))
    (λ h. Memᴰ.head (omega arith))
    (λ h. Memᴰ.tail (Memᴰ.cast (omega arith) (least_in (z ∷ l) (Memᴰ.head refl))))

-- the first k values of p, if they are below n, are one of the tables
tables_in : (n k : ℕ) (p : ℕ → ℕ) → ((x : ℕ) → x < k → p x < n) → In (tab k p) (parent_tables n k)
unfolding parent_tables tab
tables_in n zero p h = Memᴰ.head refl
tables_in n (suc k) p h =
    flat_map_in (λ t. tab n (λ v. t ++ (v ∷ []))) (parent_tables n k) (tables_in n k p (λ x l. h x (omega arith)))
    (tab_in n (λ v. tab k p ++ (v ∷ [])) (p k) (h k (omega arith)))

-- ---- trees

-- a spanning tree that costs c
pub record TreeOfCost (g : Graph) (mu nu : ℕ → ℕ) (c : ℕ) : Type 0 where
  pub root : ℕ
  pub parents : ℕ → ℕ
  pub spanning : SpanningTree g root parents
  pub cost_is : tree_cost g root parents mu nu ≡ c

module _ (g : Graph) (mu nu : ℕ → ℕ) where
  costs_from : {c : ℕ} → In c (costs g mu nu) → TreeOfCost g mu nu c
  unfolding costs
  costs_from h =
      let r = flat_map_from (λ r. flat_map (cost_of g mu nu r) (parent_tables g.n g.n)) (tab g.n (λ r. r)) h in
      let t = flat_map_from (cost_of g mu nu r.0) (parent_tables g.n g.n) r.1 in
      case (eqb (refusal (tree_checks g r.0 (at t.0))) 0)
      (λ e. record {
        root = r.0;
        parents = at t.0;
        spanning = accepted_spanning g r.0 (at t.0) (eqb-true _ 0 e);
        cost_is = sym (Memᴰ.eq_of_singleton (rw e at t.1));
      })
      (λ e. absurd (Memᴰ.not-nil (rw e at t.1)))

  module _ (acc : Accepted g) where
    -- a tree is listed by the table of its parents: neither its checks nor its cost look beyond that
    costs_in : {r : ℕ} {p : ℕ → ℕ} → SpanningTree g r p → In (tree_cost g r p mu nu) (costs g mu nu)
    unfolding costs
    costs_in {r} {p} t =
        let into = spanning_into g r p acc.edges t in
        let same : Same g.n p (at (tab g.n p)) = λ x l. sym (tab-at g.n p 0 x l) in
        let fine : refusal (tree_checks g r (at (tab g.n p))) ≡ 0 = sym (tree_same g r same) ∙ spanning_accepted g r p acc.edges t in
        flat_map_in (λ r. flat_map (cost_of g mu nu r) (parent_tables g.n g.n)) (tab g.n (λ r. r)) (tab_in g.n (λ r. r) r t.root)
        (flat_map_in (cost_of g mu nu r) (parent_tables g.n g.n) (tables_in g.n g.n p into)
        (rw fine (Memᴰ.head (tree_cost_same g (same_tree same into r) (λ x l. refl) (λ x l. refl)))))

    -- what the best cost is: some spanning tree has it,
    pub best_attained : TreeOfCost g mu nu (best_cost g mu nu)
    unfolding best_cost
    best_attained = costs_from (least_in (costs g mu nu) (costs_in (spanned g acc).1))

    -- and none costs less, under any root
    pub best_least : LeastTree g mu nu (best_cost g mu nu)
    unfolding best_cost
    best_least r p t = least-below (costs g mu nu) (costs_in t)

    -- a spanning tree than which none costs less has it
    least_is : {r : ℕ} {p : ℕ → ℕ} → SpanningTree g r p → LeastTree g mu nu (tree_cost g r p mu nu) → tree_cost g r p mu nu ≡ best_cost g mu nu
    least_is {r} {p} t least =
        let b = best_attained in
        omega (arith, best_least r p t, least b.root b.parents b.spanning, b.cost_is)

    -- what judging by it means (nothing cites this): a spanning tree has it exactly where every spanning tree costs at least as much
    pub judged_exact : {r : ℕ} {p : ℕ → ℕ} → SpanningTree g r p
        → (tree_cost g r p mu nu ≡ best_cost g mu nu → LeastTree g mu nu (tree_cost g r p mu nu))
        × (LeastTree g mu nu (tree_cost g r p mu nu) → tree_cost g r p mu nu ≡ best_cost g mu nu)
    judged_exact t = (λ e. rw e best_least, least_is t)

    -- a cost that demand 3 holds of is the best cost
    pub best_is : {p : ℕ → ℕ} {t : ℕ → ℕ → ℕ} {u : ℕ → ℤ} {cost : ℕ} → Best g mu nu p t u cost → cost ≡ best_cost g mu nu
    best_is b = sym b.tree_cost_is ∙ least_is b.spanning b.least_tree

    -- what it says of the plan (nothing cites this): the plan has the best cost, and no plan costs less
    pub best-plan : {p : ℕ → ℕ} {t : ℕ → ℕ → ℕ} {u : ℕ → ℤ} {cost : ℕ} → Best g mu nu p t u cost
        → Plan g.n mu nu t × ((plan_cost g t ≡ best_cost g mu nu) × LeastPlan g mu nu (best_cost g mu nu))
    best-plan b = let e = b.plan_cost_is ∙ best_is b in (b.carries, (e, rw e at b.least_plan))

    -- what demand 3 leaves of the cost (nothing cites this): two costs that it holds of are equal
    pub best_same_cost : {p q : ℕ → ℕ} {t s : ℕ → ℕ → ℕ} {u v : ℕ → ℤ} {c d : ℕ} → Best g mu nu p t u c → Best g mu nu q s v d → c ≡ d
    best_same_cost a b = best_is a ∙ sym (best_is b)
