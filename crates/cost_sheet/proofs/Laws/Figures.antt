-- The figures of outcomes: one outcome more, and what they say.
use Prim.Native.Nat.{ℕ, zero, suc, ◌+◌, ◌*◌, ◌≤◌, ◌<◌, max}
use mathlib.Core.Path.{◌≡◌, refl, ap, ◌∙◌}
use mathlib.Core.Bool.{Bool, true, false, ◌&&◌}
use native.Mathlib.Nat.{zero-add}
use native.Mathlib.Numerals.{add-one}
use native.Mathlib.Omega.{arith}
use lib.Dec.{eqb}
use borrow.Author.Tests.{eqb-true, eqb-false, eq-eqb, ne_eqb}
use Rattle.arithmetic.specs.Sum.{sum, pick}
use Rattle.arithmetic.proofs.Laws.Bools.{case, case≡, case<, eqb_self, and_l, and_r, clash}
use Rattle.arithmetic.proofs.Laws.Sum.{pick-le, sum-nil, sum_step, sum_ext, sum_one, sum_swap, sum_only', sum-le-mul}
use Rattle.vertex_set.specs.Lowest.{lowest}
use Rattle.vertex_set.proofs.Laws.Lowest.{lowest-found, lowest_none, lowest_before, lowest_ext, lowest_absent, lowest_is, lowest_more}
use Rattle.cost_sheet.specs.Sheet.{count_of, cost_at, cost_sum, greatest_cost, has_greatest, first_greatest}

module _ (number : ℕ → ℕ) where
  pub count_none : (k : ℕ) → count_of 0 number k ≡ 0
  unfolding count_of
  count_none k = sum-nil _

  count_next : (m k : ℕ) → count_of (suc m) number k ≡ count_of m number k + pick (eqb (number m) k) 1
  unfolding count_of sum
  count_next m k = refl

  pub count_more : (m k : ℕ) → count_of (m + 1) number k ≡ count_of m number k + pick (eqb (number m) k) 1
  unfolding count_of
  count_more m k = sum_step m _

  pub count_most : (m k : ℕ) → count_of m number k ≤ m
  unfolding count_of
  count_most m k = omega (arith, sum-le-mul m 1 (λ i. pick (eqb (number i) k) 1) (λ i _. pick-le (eqb (number i) k) 1))

  -- every outcome is counted once: the counts of all numbers come to all outcomes
  pub all_counted : (m n : ℕ) → ((i : ℕ) → i < m → number i < n) → sum n (count_of m number) ≡ m
  unfolding count_of
  all_counted m n h =
      sum_swap n m (λ k i. pick (eqb (number i) k) 1) ∙ sum_ext m _ (λ _. 1) (λ i l. sum_only' n (number i) (λ _. 1) (h i l)) ∙ sum_one m

  -- none of the first m is accepted
  pub none_accepted : (m : ℕ) → count_of m number 0 ≡ 0 → (i : ℕ) → i < m → eqb (number i) 0 ≡ false
  none_accepted zero h i l = absurd (omega arith)
  none_accepted (suc m) h i l =
      let e = count_next m 0 in
      case (eqb (number m) 0)
      (λ t. absurd (omega (arith, e, h, ap (λ (b : Bool). pick b 1) t)))
      (λ f. case≡ i m (λ q. rw q f) (λ d. none_accepted m (omega (arith, e, h)) i (omega arith)))

module _ (number cost : ℕ → ℕ) where
  pub sum_nothing : cost_sum 0 number cost ≡ 0
  unfolding cost_sum
  sum_nothing = sum-nil _

  pub sum_more : (m : ℕ) → cost_sum (m + 1) number cost ≡ cost_sum m number cost + cost_at number cost m
  unfolding cost_sum
  sum_more m = sum_step m _

  pub sum_most : (m most : ℕ) → ((i : ℕ) → i < m → cost_at number cost i ≤ most) → cost_sum m number cost ≤ m * most
  unfolding cost_sum
  sum_most m most h = sum-le-mul m most (cost_at number cost) h

  pub greatest_none : greatest_cost 0 number cost ≡ 0
  unfolding greatest_cost
  greatest_none = refl

  pub greatest_more : (m : ℕ) → greatest_cost (m + 1) number cost ≡ max (greatest_cost m number cost) (cost_at number cost m)
  unfolding greatest_cost
  greatest_more m = rw add-one

  -- the greatest cost: no accepted outcome costs more,
  pub greatest_most : (m i : ℕ) → i < m → cost_at number cost i ≤ greatest_cost m number cost
  unfolding greatest_cost
  greatest_most zero i l = absurd (omega arith)
  greatest_most (suc m) i l =
      case≡ i m (λ e. rw e (omega arith)) (λ d. omega (arith, greatest_most m i (omega arith)))

  pub no_cost : (m : ℕ) → count_of m number 0 ≡ 0 → greatest_cost m number cost ≡ 0
  unfolding greatest_cost
  no_cost zero h = refl
  no_cost (suc m) h =
      let none = none_accepted number (suc m) h in
      let v : cost_at number cost m ≡ 0 = rw (none m (omega arith)) in
      let e = count_next number m 0 in
      omega (arith, no_cost m (omega (arith, e, h)), v)

  -- and if one is accepted, one has it
  pub greatest_found : (m : ℕ) → (count_of m number 0 ≡ 0 → ⊥)
      → (i : ℕ) × ((i < m) × ((eqb (number i) 0 ≡ true) × (cost i ≡ greatest_cost m number cost)))
  unfolding greatest_cost
  greatest_found zero d = absurd (d (count_none number 0))
  greatest_found (suc m) d =
      let e = count_next number m 0 in
      case (eqb (number m) 0)
      (λ t.
      let v : cost_at number cost m ≡ cost m = rw t in
      case< (greatest_cost m number cost) (cost m)
      (λ g. (m, (omega arith, (t, omega arith))))
      (λ g. case≡ (count_of m number 0) 0
      (λ z. (m, (omega arith, (t, omega (arith, no_cost m z)))))
      (λ s. let w = greatest_found m s in (w.0, (omega (arith, w.1.0), (w.1.1.0, omega (arith, w.1.1.1)))))))
      (λ f.
      let v : cost_at number cost m ≡ 0 = rw f in
      let w = greatest_found m (omega (arith, e, ap (λ (b : Bool). pick b 1) f)) in
      (w.0, (omega (arith, w.1.0), (w.1.1.0, omega (arith, w.1.1.1)))))

  -- the first with the greatest cost: m where none is accepted,
  pub first_none : (m : ℕ) → count_of m number 0 ≡ 0 → first_greatest m number cost ≡ m
  unfolding first_greatest
  first_none m h = lowest_absent (has_greatest m number cost) m 0 (λ x _ l. rw (none_accepted number m h x (omega arith))) ∙ zero-add m

  some_first : (m : ℕ) → (count_of m number 0 ≡ 0 → ⊥) → lowest (has_greatest m number cost) m 0 < m
  some_first m d =
      let w = greatest_found m d in
      let holds : has_greatest m number cost w.0 ≡ true = rw (w.1.1.0, w.1.1.1) (eqb_self (greatest_cost m number cost)) in
      case< (lowest (has_greatest m number cost) m 0) m (λ l. l)
      (λ l. clash holds (lowest_none (has_greatest m number cost) m 0 (omega arith) w.0 (omega arith) (omega (arith, w.1.0))))

  -- kept by one outcome more that does not cost more,
  pub first_kept : (m : ℕ) → (count_of m number 0 ≡ 0 → ⊥) → greatest_cost (m + 1) number cost ≡ greatest_cost m number cost
      → first_greatest (m + 1) number cost ≡ first_greatest m number cost
  unfolding first_greatest
  first_kept m d e =
      lowest_ext (has_greatest (m + 1) number cost) (has_greatest m number cost) (m + 1) 0
      (λ x _. ap (λ (g : ℕ). eqb (number x) 0 && eqb (cost x) g) e)
      ∙ lowest_more (has_greatest m number cost) m (m + 1) 0 (omega arith) (omega (arith, some_first m d))

  -- and else that outcome
  pub first_taken : (m : ℕ) → number m ≡ 0 → cost m ≡ greatest_cost (m + 1) number cost
      → ((i : ℕ) → i < m → eqb (number i) 0 ≡ true → cost i < cost m) → first_greatest (m + 1) number cost ≡ m
  unfolding first_greatest
  first_taken m z e less =
      lowest_is (has_greatest (m + 1) number cost) (m + 1) 0 m (omega arith) (omega arith) (rw (z, e) (eqb_self (greatest_cost (m + 1) number cost)))
      (λ y _ l. case (eqb (number y) 0)
      (λ t. rw (t, ne_eqb (cost y) (greatest_cost (m + 1) number cost) (omega (arith, e, less y l t))))
      (λ f. rw f))

  -- "the greatest cost and the first image that has it", if one is accepted: it is accepted, has that cost, and costs more than any accepted before
  -- it; and none costs more
  pub first_says : (m : ℕ) → (count_of m number 0 ≡ 0 → ⊥)
      → (first_greatest m number cost < m) × (number (first_greatest m number cost) ≡ 0) × (cost (first_greatest m number cost) ≡ greatest_cost m number cost)
      × ((i : ℕ) → i < first_greatest m number cost → number i ≡ 0 → cost i < greatest_cost m number cost)
      × ((i : ℕ) → i < m → number i ≡ 0 → cost i ≤ greatest_cost m number cost)
  unfolding first_greatest
  first_says m d =
      let x = lowest (has_greatest m number cost) m 0 in
      let l : x < m = some_first m d in
      let holds = lowest-found (has_greatest m number cost) m 0 (omega arith) in
      let at-most : (i : ℕ) → i < m → number i ≡ 0 → cost i ≤ greatest_cost m number cost
      = λ i h z.
      let v : cost_at number cost i ≡ cost i = rw (eq-eqb (number i) 0 z) in
      omega (arith, greatest_most m i h, v) in (
        l,
        eqb-true (number x) 0 (and_l (eqb (number x) 0) _ holds),
        eqb-true (cost x) (greatest_cost m number cost) (and_r (eqb (number x) 0) _ holds),
        λ i h z.
            let n = lowest_before (has_greatest m number cost) m 0 i (omega arith) h in
            let other : eqb (cost i) (greatest_cost m number cost) ≡ false = rw (eq-eqb (number i) 0 z) at n in
            omega (arith, at-most i (omega arith) z, eqb-false (cost i) (greatest_cost m number cost) other),
        at-most,
      )
