-- A sheet with one outcome more.
use Prim.Native.Nat.{ℕ, ◌+◌, ◌≤◌, ◌<◌}
use mathlib.Core.Path.{◌≡◌, sym, ap, ◌∙◌}
use mathlib.Core.Bool.{Bool, true, false}
use mathlib.Core.List.{List}
use Rattle.std.specs.Prelude.{Some, None}
use Rattle.std.specs.Option.{is_some}
use native.Mathlib.Omega.{arith}
use lib.Dec.{eqb}
use lib.ListN.{length, set, length-set}
use lib.Seq.{get_or-set_same, get_or-set_other}
use borrow.Author.Tests.{eq-eqb, ne_eqb}
use Rattle.arithmetic.specs.Sum.{pick}
use Rattle.arithmetic.specs.Table.{at, tab}
use Rattle.arithmetic.proofs.Laws.Bools.{case≡, clash}
use Rattle.arithmetic.proofs.Laws.Table.{length-tab, tab-at, tab_ext, tab_is}
use Rattle.cost_sheet.specs.declared.Sheet.{Sheet}
use Rattle.cost_sheet.specs.Sheet.{count_of, cost_at, greatest_cost, first_greatest}
use Rattle.cost_sheet.specs.Steps.Sheet.{Tells}
use Rattle.cost_sheet.proofs.Laws.Figures.{count_none, count_more, none_accepted, no_cost, sum_nothing, sum_more, greatest_none, greatest_more, greatest_most, first_kept, first_taken}

-- no outcome yet
pub tells_none : (zeros : List ℕ) → zeros ≡ tab 24 (λ _. 0) → (number cost : ℕ → ℕ)
    → Tells 0 number cost (record { tally = zeros; sum = 0; greatest = 0; first = None })
tells_none zeros e number cost = record {
  counts = e ∙ tab_ext 24 (λ _. 0) (count_of 0 number) (λ k _. sym (count_none number k));
  total = sym (sum_nothing number cost);
  most = sym (greatest_none number cost);
  place = rw (count_none number 0);
}

-- one more is counted under its number
counts_more : (i k : ℕ) (number : ℕ → ℕ) (l : List ℕ) → l ≡ tab 24 (count_of i number) → k ≡ number i → k < 24
    → set l k (at l k + 1) ≡ tab 24 (count_of (i + 1) number)
counts_more i k number l e f h =
    sym (tab_is 24 (count_of (i + 1) number) (set l k (at l k + 1)) (length-set l k (at l k + 1) ∙ long) each)
  where
    long : length l ≡ 24
    long = ap length e ∙ length-tab 24 (count_of i number)

    here : (x : ℕ) → x < 24 → at l x ≡ count_of i number x
    here x j = ap (λ (m : List ℕ). at m x) e ∙ tab-at 24 (count_of i number) 0 x j

    each : (x : ℕ) → x < 24 → count_of (i + 1) number x ≡ at (set l k (at l k + 1)) x
    each x j =
        case≡ x k
        (λ q.
        rw (q, get_or-set_same l k (at l k + 1) 0 (omega (arith, long, h)))
        (omega (arith, count_more number i k, here k h, ap (λ (b : Bool). pick b 1) (eq-eqb (number i) k (sym f)))))
        (λ d.
        rw (get_or-set_other l k x (at l k + 1) 0 (omega arith))
        (omega (arith, count_more number i x, here x j, ap (λ (b : Bool). pick b 1) (ne_eqb (number i) x (omega arith)))))

module _ {i : ℕ} {number cost : ℕ → ℕ} {t : Sheet} (w : Tells i number cost t) {k : ℕ} (e : k ≡ number i) where
  pub place_counted : k < 24 → at t.tally k ≡ count_of i number k
  place_counted h = ap (λ (m : List ℕ). at m k) w.counts ∙ tab-at 24 (count_of i number) 0 k h

  accepted_same : (k ≡ 0 → ⊥) → count_of (i + 1) number 0 ≡ count_of i number 0
  accepted_same d = omega (arith, count_more number i 0, ap (λ (b : Bool). pick b 1) (ne_eqb (number i) 0 (omega arith)))

  -- it was refused
  pub refused_more : k < 24 → (k ≡ 0 → ⊥)
      → Tells (i + 1) number cost (record { tally = set t.tally k (at t.tally k + 1); sum = t.sum; greatest = t.greatest; first = t.first })
  refused_more h d =
      let v : cost_at number cost i ≡ 0 = rw (ne_eqb (number i) 0 (omega arith)) in
      let g : greatest_cost (i + 1) number cost ≡ greatest_cost i number cost = omega (arith, greatest_more number cost i, v) in
      record {
        counts = counts_more i k number t.tally w.counts e h;
        total = omega (arith, w.total, sum_more number cost i, v);
        most = w.most ∙ sym g;
        place =
            w.place ∙ rw (accepted_same d)
            (case≡ (count_of i number 0) 0
            (λ z. rw z)
            (λ s. rw (ne_eqb (count_of i number 0) 0 s) (ap Some (sym (first_kept number cost i s g)))));
      }

  -- it was accepted, at the cost v
  module _ (z : k ≡ 0) {v : ℕ} (f : v ≡ cost i) where
    is_cost : cost_at number cost i ≡ v
    is_cost = rw (eq-eqb (number i) 0 (omega arith)) (sym f)

    some : count_of (i + 1) number 0 ≡ 0 → ⊥
    some n = omega (arith, count_more number i 0, ap (λ (b : Bool). pick b 1) (eq-eqb (number i) 0 (omega arith)))

    -- the first so far, or one that costs more than those before it
    taken : ((x : ℕ) → x < i → eqb (number x) 0 ≡ true → cost x < cost i) → greatest_cost i number cost ≤ v
        → Tells (i + 1) number cost (record { tally = set t.tally k (at t.tally k + 1); sum = t.sum + v; greatest = v; first = Some i })
    taken less most =
        let g : v ≡ greatest_cost (i + 1) number cost = omega (arith, greatest_more number cost i, is_cost) in
        record {
          counts = counts_more i k number t.tally w.counts e (omega arith);
          total = omega (arith, w.total, sum_more number cost i, is_cost);
          most = g;
          place = rw (ne_eqb (count_of (i + 1) number 0) 0 some) (ap Some (sym (first_taken number cost i (omega arith) (omega arith) less)));
        }

    pub first_more : is_some t.first ≡ false → Tells (i + 1) number cost (record { tally = set t.tally k (at t.tally k + 1); sum = t.sum + v; greatest = v; first = Some i })
    first_more b =
        let n : count_of i number 0 ≡ 0 = case≡ (count_of i number 0) 0 (λ q. q) (λ d.
        let u : t.first ≡ Some (first_greatest i number cost) = w.place ∙ rw (ne_eqb (count_of i number 0) 0 d) in
        clash (ap is_some u) b) in
        taken (λ x l q. clash q (none_accepted number i n x l)) (omega (arith, no_cost number cost i n))

    pub greater_more : t.greatest < v → Tells (i + 1) number cost (record { tally = set t.tally k (at t.tally k + 1); sum = t.sum + v; greatest = v; first = Some i })
    greater_more b =
        taken
        (λ x l q.
        let c : cost_at number cost x ≡ cost x = rw q in
        omega (arith, greatest_most number cost i x l, w.most))
        (omega (arith, w.most))

    -- it costs no more
    pub kept_more : is_some t.first ≡ true → v ≤ t.greatest
        → Tells (i + 1) number cost (record { tally = set t.tally k (at t.tally k + 1); sum = t.sum + v; greatest = t.greatest; first = t.first })
    kept_more d b =
        let s : count_of i number 0 ≡ 0 → ⊥
        = λ q.
        let u : t.first ≡ None = w.place ∙ rw q in
        clash d (ap is_some u) in
        let g : greatest_cost (i + 1) number cost ≡ greatest_cost i number cost
        = omega (arith, greatest_more number cost i, is_cost, w.most) in
        record {
          counts = counts_more i k number t.tally w.counts e (omega arith);
          total = omega (arith, w.total, sum_more number cost i, is_cost);
          most = w.most ∙ sym g;
          place = w.place ∙ rw (ne_eqb (count_of i number 0) 0 s, ne_eqb (count_of (i + 1) number 0) 0 some) (ap Some (sym (first_kept number cost i s g)));
        }
