-- The plan by the document's rule costs no more than the tree.
use Prim.Native.Nat.{ℕ, ◌+◌, ◌*◌, ◌≤◌, ◌<◌}
use mathlib.Core.Path.{◌≡◌, ap, ◌∙◌}
use mathlib.Core.Bool.{true, false}
use native.Mathlib.Nat.{mul-le-mul_left}
use native.Mathlib.Omega.{arith}
use Rattle.arithmetic.specs.Sum.{sum}
use Rattle.arithmetic.proofs.Laws.Bools.{case, case≡, case<, clash, is_false}
use Rattle.arithmetic.proofs.Laws.Sum.{sum_ext, sum-le, sum-add, sum-mul, sum_swap}
use Rattle.rooted_tree.specs.Chain.{below}
use Rattle.rooted_tree.specs.Steps.Rooted.{Rooted}
use Rattle.rooted_tree.specs.Steps.Subtotal.{subtotal}
use Rattle.rooted_tree.specs.Steps.Flow.{flow_cost}
use Rattle.rooted_tree.proofs.Laws.Rooted.{tree_ind, refl_b, up_b, down_b, root_b, antisym, all-b}
use Rattle.rooted_tree.proofs.Laws.Flow.{tree_strong, height, height_up, height_down, height_agrees}
use Rattle.plan_rule.specs.Plan.{plan}
use Rattle.plan_rule.proofs.Laws.Plan.{Climbs, plan_climbs, plan-rows, plan_columns}

-- d is a distance within the lengths l of the tree's edges
pub record MetricWithin (n r : ℕ) (p l : ℕ → ℕ) (d : ℕ → ℕ → ℕ) : Type 0 where
  pub self : (i : ℕ) → i < n → d i i ≡ 0
  pub triangle : (i j k : ℕ) → i < n → j < n → k < n → d i j ≤ d i k + d k j
  pub up : (x : ℕ) → x < n → (x ≡ r → ⊥) → d x (p x) ≤ l x
  pub down : (x : ℕ) → x < n → (x ≡ r → ⊥) → d (p x) x ≤ l x

module _ {n r : ℕ} {p : ℕ → ℕ} (t : Rooted n r p) (mu nu l : ℕ → ℕ) (d : ℕ → ℕ → ℕ) (near : MetricWithin n r p l d) where
  U : ℕ → ℕ
  U = height n r p l mu nu

  -- from i down to j the potential falls by the distance, where the flow descends
  descend : (i : ℕ) → i < n → (j : ℕ) → j < n → below p n j i ≡ true
      → ((x : ℕ) → x < n → below p n j x ≡ true → below p n i x ≡ false → subtotal p n mu x < subtotal p n nu x) → d i j + U j ≤ U i
  unfolding U
  descend i li =
      tree_ind t
      (λ j. below p n j i ≡ true
      → ((x : ℕ) → x < n → below p n j x ≡ true → below p n i x ≡ false → subtotal p n mu x < subtotal p n nu x) → d i j + U j ≤ U i)
      (λ h f. rw (root_b t i h) (omega (arith, near.self i li)))
      (λ j lj jr ih h f. case≡ j i
      (λ e. rw e (omega (arith, near.self i li)))
      (λ e. omega (
        arith,
        ih (down_b t j i lj h e) (λ x lx g. f x lx (up_b t j x lj g)),
        height_down t l mu nu j lj jr (f j lj (refl_b t j lj) (is_false _ (λ g. e (antisym t i j li lj h g)))),
        near.triangle i j (p j) li lj (t.into j lj),
        near.down j lj jr,
      )))

  -- the potential falls by the distance from i to j at least, where the flow goes that way
  climb_and_descend : (i : ℕ) → i < n → (j : ℕ) → j < n → Climbs n p mu nu i j → d i j + U j ≤ U i
  unfolding U
  climb_and_descend =
      tree_ind t (λ i. (j : ℕ) → j < n → Climbs n p mu nu i j → d i j + U j ≤ U i)
      (λ j lj c. descend r t.root j lj (all-b t j lj) c.down)
      (λ i li ir ih j lj c. case (below p n j i)
      (λ e. descend i li j lj e c.down)
      (λ e. omega (
        arith,
        ih j lj (record {
          up = λ x lx f g. c.up x lx (up_b t i x li f) g;
          down = λ x lx f g. c.down x lx f
              (is_false _ (λ h. case≡ i x (λ q. clash (rw (← q) at f) e) (λ q. clash (down_b t i x li h q) g)));
        }),
        height_up t l mu nu i li ir (let z = c.up i li (refl_b t i li) e in omega (arith, z)),
        near.triangle i j (p i) li lj (t.into i li),
        near.up i li ir,
      )))

  module _ (same : sum n mu ≡ sum n nu) where
    g : ℕ → ℕ → ℕ
    g = plan n r p mu nu

    -- one entry
    entry : (i j : ℕ) → i < n → j < n → g i j * d i j + U j * g i j ≤ U i * g i j
    unfolding g
    entry i j li lj =
        case< 0 (g i j)
        (λ h. omega (arith, mul-le-mul_left (g i j) (climb_and_descend i li j lj (plan_climbs t mu nu i j li lj h))))
        (λ h. let z : g i j ≡ 0 = omega arith in rw z (omega arith))

    sent_to : sum n (λ i. sum n (λ j. U j * g i j)) ≡ sum n (λ j. U j * nu j)
    unfolding g
    sent_to =
        sum_swap n n (λ i j. U j * g i j)
        ∙ sum_ext n _ _ (λ j l. sum-mul n (U j) (λ i. g i j) ∙ ap (λ (k : ℕ). U j * k) (plan_columns t mu nu same j l))

    sent_from : sum n (λ i. sum n (λ j. U i * g i j)) ≡ sum n (λ i. U i * mu i)
    unfolding g
    sent_from =
        sum_ext n _ _ (λ i l. sum-mul n (U i) (λ j. g i j) ∙ ap (λ (k : ℕ). U i * k) (plan-rows t mu nu same i l))

    pub plan_cost_is : sum n (λ i. sum n (λ j. plan n r p mu nu i j * d i j)) ≤ flow_cost n r p l mu nu
    unfolding g U
    plan_cost_is =
        omega (
          arith,
          sent_to,
          sent_from,
          sum-add n (λ i. sum n (λ j. g i j * d i j)) (λ i. sum n (λ j. U j * g i j)),
          sum-le n (λ i. sum n (λ j. g i j * d i j) + sum n (λ j. U j * g i j)) (λ i. sum n (λ j. U i * g i j)) (λ i li.
              omega (
                arith,
                sum-add n (λ j. g i j * d i j) (λ j. U j * g i j),
                sum-le n (λ j. g i j * d i j + U j * g i j) (λ j. U i * g i j) (λ j lj. entry i j li lj),
              )),
          tree_strong t U l mu nu same (height_agrees t l mu nu),
        )
