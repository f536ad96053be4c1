-- A plan's start and its end: the shared amounts put in, the residue, and the finished table.
use mathlib.Core.Path.{◌≡◌, refl, sym, ap, ◌∙◌}
use mathlib.Core.List.{List}
use Prim.Native.Nat.{ℕ, zero, suc, ◌+◌, ◌-◌, ◌*◌, ◌≤◌, ◌<◌, ◌^◌, min}
use native.Mathlib.Omega.{arith}
use lib.Dec.{eqb, ltb}
use lib.ListN.{length, set, length-set}
use borrow.Author.Tests.{eq-eqb, ne_eqb, lt-ltb, le-ltb}
use Rattle.arithmetic.specs.Sum.{pick}
use Rattle.arithmetic.specs.Table.{at}
use Rattle.arithmetic.specs.Steps.Table.{cell}
use Rattle.arithmetic.specs.Steps.Matrix.{filled}
use Rattle.arithmetic.specs.Steps.Mask.{bit}
use Rattle.arithmetic.proofs.Laws.Bools.{case, case≡, case<, eqb_self}
use Rattle.arithmetic.proofs.Laws.Sum.{pick-le, pick-zero, sum_ge}
use Rattle.arithmetic.proofs.Laws.Fill.{filling_none, filling_more, filled-end}
use Rattle.arithmetic.proofs.Laws.Matrix.{filled_at, filled_ext, filled_by, filled-length, filled_over, filled_self, filled_store}
use Rattle.arithmetic.proofs.Laws.Mask.{bit_mask, mask_bits}
use Rattle.rooted_tree.specs.Chain.{depth}
use Rattle.plan_rule.specs.Plan.{PartialPlan, started, moves}
use Rattle.plan_rule.specs.Steps.Agreement.{Agree}
use Rattle.plan_rule.proofs.Laws.Agreement.{agree_trans, layers_agree}
use Rattle.plan_rule.proofs.Laws.PlanMoves.{moves-filled}
use Rattle.plan_matching.specs.declared.Residue.{Residue}
use Rattle.plan_matching.specs.Steps.Residue.{residue, partial_plan, positive, Done}
use Rattle.vertex_set.specs.Steps.Sets.{VertexSets, Depths}
use Rattle.plan_layers.specs.Steps.Layers.{set_of, taken_by_tables}
use Rattle.transport_plan.specs.Steps.PlanSteps.{TreeTables, Measures, Zeros, SharedKept, Begun}
use Rattle.plan_rule.specs.Plan as Plan

pub amount_fits : (n : ℕ) (mu nu : List ℕ) (x : ℕ) → Measures n mu nu → x < n → (at mu x ≤ 2 ^ 24) × (at nu x ≤ 2 ^ 24)
amount_fits n mu nu x m l = (omega (arith, sum_ge n x (at mu) l, m.total_mu), omega (arith, sum_ge n x (at nu) l, m.total_nu))

-- ---- the shared amounts
pub zeros_filled : (n : ℕ) (lent plan : List ℕ) → n * n ≤ length lent → plan ≡ filled n (λ _ _. 0) lent → Zeros n plan
zeros_filled n lent plan room e = record {
  room = rw (e, filled-length n (λ _ _. 0) lent room) room;
  each = λ i j hi hj. rw e (filled_at n (λ _ _. 0) lent i j hi hj);
}

pub shared_none : {n : ℕ} {mu nu s d plan : List ℕ} → Zeros n plan → n ≤ length s → n ≤ length d → SharedKept n mu nu s d plan 0 s d plan
shared_none {n} {plan = plan} z ls ld = record {
  surplus = filling_none _ _ ls;
  deficit = filling_none _ _ ld;
  long = refl;
  sent = filled_self n _ plan z.room (λ i j hi hj. z.each i j hi hj ∙ sym (rw (le-ltb i 0 (omega arith), pick-zero)));
}

-- the test "below x" changes at x alone
below_next : (u x m : ℕ) → (u ≡ x → ⊥) → pick (ltb u (x + 1)) m ≡ pick (ltb u x) m
below_next u x m d =
    case< u x
    (λ k. rw (lt-ltb u x k, lt-ltb u (x + 1) (omega arith)))
    (λ k. rw (le-ltb u x k, le-ltb u (x + 1) (omega arith)))

module _ {n : ℕ} {mu nu s₀ d₀ plan₀ : List ℕ} {x : ℕ} {s d plan : List ℕ} (h : SharedKept n mu nu s₀ d₀ plan₀ x s d plan) where
  -- one vertex more
  pub shared_more : {v a b place : ℕ} → n * n ≤ length plan₀ → x < n → v ≡ min (at mu x) (at nu x) → a ≡ at mu x - at nu x
      → b ≡ at nu x - at mu x → place ≡ x * n + x
      → SharedKept n mu nu s₀ d₀ plan₀ (x + 1) (set s x a) (set d x b) (set plan place v)
  shared_more {v} {a} {b} {place} room l ev ea eb ep = record {
    surplus = filling_more h.surplus l ea;
    deficit = filling_more h.deficit l eb;
    long = length-set plan place v ∙ h.long;
    sent = rw ep (filled_store n _ _ plan₀ plan x x v room l l h.sent
        (rw (eqb_self x, lt-ltb x (x + 1) (omega arith)) (sym ev))
        (λ u w _ _ d. case≡ u w
        (λ e. rw (eq-eqb u w e) (below_next u x _ (λ z. d z (sym e ∙ z))))
        (λ e. rw (ne_eqb u w e))));
  }

-- ---- the residue
module _ {n : ℕ} {mu nu s₀ d₀ plan₀ s d plan : List ℕ} (h : SharedKept n mu nu s₀ d₀ plan₀ n s d plan) where
  shared_sent : plan ≡ filled n (λ i j. pick (eqb i j) (min (at mu i) (at nu i))) plan₀
  shared_sent = h.sent ∙ filled_ext n _ plan₀ _ (λ i j hi hj. rw (lt-ltb i n hi))

  started_agree : (a b : ℕ) → Agree n (started (at mu) (at nu)) (partial_plan n (residue a b s d) plan)
  started_agree a b = record {
    sent = λ i j hi hj. sym (ap (λ (l : List ℕ). cell n l i j) shared_sent ∙ filled_at n _ plan₀ i j hi hj);
    surplus = λ x l. sym ((filled-end h.surplus (omega arith)).each x l);
    deficit = λ x l. sym ((filled-end h.deficit (omega arith)).each x l);
  }

  pub begun : {r : Residue} → n ≤ 64 → n * n ≤ length plan₀ → Measures n mu nu → r ≡ residue (positive n s) (positive n d) s d
      → Begun n mu nu plan₀ r plan
  begun small room m e = rw e (record {
    agree = start;
    consistent = record {
      small = small;
      room = omega (arith, h.long);
      long_s = omega (arith, h.surplus.size, h.surplus.room);
      long_d = omega (arith, h.deficit.size, h.deficit.room);
      apart = λ x l. omega (arith, start.surplus x l, start.deficit x l);
      fits = λ i j hi hj. omega (arith, start.sent i j hi hj, start.surplus i hi, pick-le (eqb i j) (min (at mu i) (at nu i)), (amount_fits n mu nu i m hi).0);
      senders_are = refl;
      receivers_are = refl;
    };
    sent = shared_sent;
  })
    where
      start : Agree n (started (at mu) (at nu)) (partial_plan n (residue (positive n s) (positive n d) s d) plan)
      start = started_agree (positive n s) (positive n d)

-- ---- the tree

-- at most k edges are counted
depth_le : (p : ℕ → ℕ) (r k y : ℕ) → depth p r k y ≤ k
unfolding depth
depth_le p r zero y = omega arith
depth_le p r (suc k) y = case (eqb y r) (λ e. rw e (omega arith)) (λ e. rw e (omega (arith, depth_le p r k (p y))))

module _ {n r : ℕ} {p : ℕ → ℕ} {depths masks : List ℕ} (t : TreeTables n r p depths masks) where
  pub tree_depths : Depths n depths
  tree_depths = record { long = t.long_depths; each = λ x l. rw (t.depths_are x l) (depth_le p r n x) }

  pub tree_sets : VertexSets n masks
  tree_sets = record { long = t.long_masks; each = λ x l. mask_bits n _ _ (t.masks_are x l) }

  -- from the zeros to the plan
  pub plan-filled : (lent : List ℕ) {mu nu zeros plan plan' : List ℕ} {s s' : Residue} → zeros ≡ filled n (λ _ _. 0) lent
      → Begun n mu nu zeros s plan → Done n (taken_by_tables n depths masks n) s plan s' plan'
      → plan' ≡ filled n (Plan.plan n r p (at mu) (at nu)) lent
  unfolding Plan.plan taken_by_tables set_of
  plan-filled lent {mu} {nu} {zeros} {plan = plan} {plan' = plan'} z h d =
      filled_by n _ plan (omega (arith, d.kept.long, d.consistent.room)) plan' d.kept.long d.kept.rest
      (λ i j hi hj. sym ((agree_trans (layers_agree n r p (λ x l. sym (t.depths_are x l))
      (λ x y l k. sym (ap (λ (w : ℕ). bit w y) (t.masks_are x l) ∙ bit_mask n _ y k)) h.agree) d.agree).sent i j hi hj))
      ∙ ap (filled n (Plan.plan n r p (at mu) (at nu))) h.sent ∙ filled_over n _ zeros _ ∙ ap (filled n (Plan.plan n r p (at mu) (at nu))) z ∙ filled_over n _ lent _

-- the moves of a table that holds a plan are the plan's
pub plan-moves : (n : ℕ) (t : ℕ → ℕ → ℕ) (lent l : List ℕ) (k : ℕ) → l ≡ filled n t lent → k ≡ moves n (λ i j. cell n l i j) → k ≡ moves n t
plan-moves n t lent l k e h = h ∙ rw e (moves-filled n t lent)
