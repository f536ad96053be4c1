-- The certificate: a spanning tree with root 0 and a potential within every edge's length that weighs the masses' difference to the tree's
-- cost make, with the tree's plan, a best answer.
use Prim.Native.Nat.{ℕ, ◌+◌, ◌-◌, ◌*◌, ◌≤◌, ◌<◌}
use mathlib.Core.Path.{◌≡◌, refl, sym, ap, ◌∙◌}
use mathlib.Core.Bool.{true}
use mathlib.Core.Logic.{⊎_elim}
use native.Mathlib.Nat.{le_antisymm}
use native.Mathlib.Omega.{arith}
use lib.IntN.{ℤ, pos, sub_ℕ, nat_abs, ◌-ℤ◌, ◌*ℤ◌}
use Rattle.arithmetic.specs.Sum.{sum}
use Rattle.arithmetic.specs.Table.{at}
use Rattle.arithmetic.specs.Integer.{sum_ℤ}
use Rattle.arithmetic.specs.Steps.Product.{gap}
use Rattle.arithmetic.proofs.Laws.Sum.{sum_ge}
use Rattle.arithmetic.proofs.Laws.Integer.{sum_ℤ_ext, plus, minus, as_sub, sub_cong, sub_inj, sub_same, sub-zero, sub-sub, abs-sub, offset_cancels}
use Rattle.rooted_tree.specs.Steps.Rooted.{Rooted}
use Rattle.rooted_tree.specs.Steps.Flow.{flow_cost}
use Rattle.rooted_tree.proofs.Laws.Flow.{tree_weak}
use Rattle.graph.specs.Graph.{Graph, edges, joined, edge_length}
use Rattle.graph.specs.SpanningTree.{SpanningTree}
use Rattle.graph.specs.Distance.{distance}
use Rattle.graph.specs.Steps.Accepted.{Accepted}
use Rattle.graph.proofs.Laws.Edge.{edge_order, joins_ends, joined_edge, joined_sym, edge_length_sym}
use Rattle.graph.proofs.Laws.Path.{path_edge, distance-below}
use Rattle.graph.proofs.Laws.Distance.{distance_self, distance-triangle, distance-step}
use Rattle.tree_checks.proofs.Laws.TreeTests.{spanning_rooted}
use Rattle.plan_rule.specs.Plan.{plan}
use Rattle.plan_rule.proofs.Laws.Plan.{plan-rows, plan_columns}
use Rattle.plan_rule.proofs.Laws.PlanCost.{MetricWithin, plan_cost_is}
use Rattle.tree_figures.specs.Figures.{difference, to_parent, tree_cost}
use Rattle.tree_figures.proofs.Laws.Figure.{tree_cost_flow}
use Rattle.duality.specs.Best.{Plan, plan_cost, LeastTree, LeastPlan, Best}
use Rattle.duality.specs.Steps.Best.{Certificate}
use Rattle.duality.proofs.Laws.PlanDuality.{plan_weak}

-- the change of a potential along an edge, in integers and in naturals
change_is : (g : Graph) → Accepted g → (U : ℕ → ℕ) (K : ℕ) (u : ℕ → ℤ) → ((y : ℕ) → y < g.n → u y ≡ sub_ℕ (U y) K) → (e : ℕ) → e < edges g
    → nat_abs (u (at g.lower e) -ℤ u (at g.upper e)) ≡ gap (U (at g.lower e)) (U (at g.upper e))
change_is g acc U K u u-is e l =
    let o = edge_order g acc.edges e l in
    let a = at g.lower e in
    let b = at g.upper e in
    rw (u-is a (omega arith), u-is b (omega arith), sub-sub (U a) K (U b) K, abs-sub (U a + K) (K + U b)) (omega arith)

-- the same with the cost of the tree's flow
pub certificate_of_flow : (g : Graph) (mu nu p U : ℕ → ℕ) → SpanningTree g 0 p
    → ((e : ℕ) → e < edges g → gap (U (at g.lower e)) (U (at g.upper e)) ≤ at g.lengths e)
    → sum g.n (λ y. U y * mu y) ≡ sum g.n (λ y. U y * nu y) + flow_cost g.n 0 p (λ x. edge_length g x (p x)) mu nu
    → Certificate g mu nu p U
certificate_of_flow g mu nu p U t within weighs = record {
  spanning = t;
  within = within;
  weighs = weighs ∙ ap (λ (c : ℕ). sum g.n (λ y. U y * nu y) + c) (sym (tree_cost_flow g 0 p mu nu));
}

module _ (g : Graph) (acc : Accepted g) (mu nu p U : ℕ → ℕ) (same : sum g.n mu ≡ sum g.n nu) (cert : Certificate g mu nu p U) where
  near : (x y : ℕ) → joined g x y ≡ true → U x ≤ U y + edge_length g x y
  near x y h =
      let e = joined_edge g acc.edges x y h in
      let w = cert.within e.number e.here in
      ⊎_elim
      (λ d. omega (arith, w, e.size, ap U d.0, ap U d.1))
      (λ d. omega (arith, w, e.size, ap U d.0, ap U d.1))
      (joins_ends g e.number x y e.ends)

  near_both : (x y : ℕ) → joined g x y ≡ true → (U x ≤ U y + edge_length g x y) × (U y ≤ U x + edge_length g x y)
  near_both x y h = (near x y h, omega (arith, near y x (joined_sym g y x ∙ h), edge_length_sym g x y))

  rooted : Rooted g.n 0 p
  rooted = spanning_rooted g 0 p acc.edges cert.spanning

  least_tree : LeastTree g mu nu (tree_cost g 0 p mu nu)
  least_tree r q t =
      omega (
        arith,
        tree_weak (spanning_rooted g r q acc.edges t) U (to_parent g q) mu nu same (λ x l d. near_both x (q x) (t.edge x l d)),
        tree_cost_flow g r q mu nu,
        cert.weighs,
      )

  least_plan : LeastPlan g mu nu (tree_cost g 0 p mu nu)
  unfolding plan_cost
  least_plan t h =
      omega (
        arith,
        plan_weak g.n U (distance g) t mu nu (distance-step g acc U near) h.rows h.columns,
        cert.weighs,
      )

  -- a distance is no longer than the tree's edge
  tree_within : MetricWithin g.n 0 p (to_parent g p) (distance g)
  tree_within = record {
    self = λ i l. distance_self g i;
    triangle = λ i j k li lj lk. distance-triangle g i k j lk;
    up = λ x l d. distance-below g acc.edges (path_edge g (joined_edge g acc.edges x (p x) (cert.spanning.edge x l d)));
    down = λ x l d. omega (
      arith,
      edge_length_sym g x (p x),
      distance-below g acc.edges
          (path_edge g (joined_edge g acc.edges (p x) x (joined_sym g (p x) x ∙ cert.spanning.edge x l d))),
    );
  }

  tree_plan : Plan g.n mu nu (plan g.n 0 p mu nu)
  tree_plan = record { rows = plan-rows rooted mu nu same; columns = plan_columns rooted mu nu same }

  equal : plan_cost g (plan g.n 0 p mu nu) ≡ tree_cost g 0 p mu nu
  equal =
      le_antisymm
      (rw (tree_cost_flow g 0 p mu nu) (unfold plan_cost in plan_cost_is rooted mu nu (to_parent g p) (distance g) tree_within same))
      (least_plan (plan g.n 0 p mu nu) tree_plan)

  -- differences of the potential do not depend on the offset
  pub certificate_best : (u : ℕ → ℤ) → ((y : ℕ) → y < g.n → u y ≡ sub_ℕ (U y) (U 0))
      → Best g mu nu p (plan g.n 0 p mu nu) u (tree_cost g 0 p mu nu)
  certificate_best u u-is = record {
    carries = tree_plan;
    least_plan = rw equal least_plan;
    spanning = cert.spanning;
    least_tree = least_tree;
    plan_cost_is = equal;
    tree_cost_is = refl;
    zero_at_0 = u-is 0 cert.spanning.root ∙ sub_same {a = U 0} refl;
    within = λ e l. rw (change_is g acc U (U 0) u u-is e l) (cert.within e l);
    weighs =
        sum_ℤ_ext g.n _ _ (λ y l. ap (λ (z : ℤ). z *ℤ difference mu nu y) (u-is y l))
        ∙ offset_cancels g.n (U 0) U mu nu same
        ∙ sub_cong (sum g.n (λ y. U y * mu y)) (sum g.n (λ y. U y * nu y)) (tree_cost g 0 p mu nu) 0 (omega (arith, cert.weighs))
        ∙ sub-zero (tree_cost g 0 p mu nu);
  }

-- ---- the same from a potential in integers

-- a potential u in naturals: raised by the sum of its negative parts
raised : ℕ → (ℕ → ℤ) → ℕ → ℕ
raised n u y = (sum n (λ x. minus (u x)) + plus (u y)) - minus (u y)

module _ (n : ℕ) (u : ℕ → ℤ) where
  raised_is : (y : ℕ) → y < n → u y ≡ sub_ℕ (raised n u y) (sum n (λ x. minus (u x)))
  unfolding raised
  raised_is y l =
      let h : plus (u y) + sum n (λ x. minus (u x)) ≡ raised n u y + minus (u y) = omega (arith, sum_ge n y (λ x. minus (u x)) l) in
      as_sub (u y) ∙ sub_cong _ _ _ _ h

pub record IntegerCertificate (g : Graph) (mu nu p : ℕ → ℕ) (u : ℕ → ℤ) : Type 0 where
  pub spanning : SpanningTree g 0 p
  pub zero_at_0 : u 0 ≡ pos 0
  pub within : (e : ℕ) → e < edges g → nat_abs (u (at g.lower e) -ℤ u (at g.upper e)) ≤ at g.lengths e
  pub weighs : sum_ℤ g.n (λ y. u y *ℤ difference mu nu y) ≡ pos (tree_cost g 0 p mu nu)

module _ (g : Graph) (acc : Accepted g) (mu nu p : ℕ → ℕ) (u : ℕ → ℤ) (same : sum g.n mu ≡ sum g.n nu) where
  pub certified_best : IntegerCertificate g mu nu p u
      → Best g mu nu p (plan g.n 0 p mu nu) u (tree_cost g 0 p mu nu)
  unfolding raised
  certified_best c =
      certificate_best g acc mu nu p (raised g.n u) same cert u (λ y l. raised_is g.n u y l ∙ ap (λ (k : ℕ). sub_ℕ (raised g.n u y) k) (sym ground))
    where
      K : ℕ
      K = sum g.n (λ x. minus (u x))

      ground : raised g.n u 0 ≡ K
      ground = rw c.zero_at_0 (omega arith)

      cert : Certificate g mu nu p (raised g.n u)
      cert = record {
        spanning = c.spanning;
        within = λ e l. rw (change_is g acc (raised g.n u) K u (raised_is g.n u) e l) at (c.within e l);
        weighs =
            let h = sub_inj (sum g.n (λ y. raised g.n u y * mu y)) (sum g.n (λ y. raised g.n u y * nu y)) (tree_cost g 0 p mu nu) 0
            (sym (offset_cancels g.n K (raised g.n u) mu nu same)
            ∙ sym (sum_ℤ_ext g.n _ _ (λ y l. ap (λ (z : ℤ). z *ℤ difference mu nu y) (raised_is g.n u y l)))
            ∙ c.weighs ∙ sym (sub-zero (tree_cost g 0 p mu nu))) in
            omega arith;
      }

-- what demand 3 says of the tree and the potential (nothing cites this): they certify each other
pub best_certified : {g : Graph} {mu nu p : ℕ → ℕ} {t : ℕ → ℕ → ℕ} {u : ℕ → ℤ} {cost : ℕ} → Best g mu nu p t u cost
    → IntegerCertificate g mu nu p u
best_certified b = record {
  spanning = b.spanning;
  zero_at_0 = b.zero_at_0;
  within = b.within;
  weighs = b.weighs ∙ ap pos (sym b.tree_cost_is);
}
