-- One move in tables: what its stores do to the partial plan that they read.
use mathlib.Core.Path.{◌≡◌, refl, sym, ap, ◌∙◌}
use mathlib.Core.Bool.{true}
use mathlib.Core.List.{List}
use Prim.Native.Nat.{ℕ, ◌+◌, ◌-◌, ◌*◌, ◌≤◌, ◌<◌, ◌^◌, min}
use native.Mathlib.Omega.{arith}
use lib.Dec.{ltb}
use lib.ListN.{length, set, length-set}
use lib.Seq.{get_or-set_same, get_or-set_other, drop-set-lt}
use borrow.Author.Tests.{ne_eqb, lt-ltb, le-ltb}
use Rattle.arithmetic.specs.Sum.{pick}
use Rattle.arithmetic.specs.Table.{at}
use Rattle.arithmetic.specs.Mask.{mask}
use Rattle.arithmetic.specs.Steps.Table.{cell}
use Rattle.arithmetic.proofs.Laws.Bools.{case≡, eqb_self}
use Rattle.arithmetic.proofs.Laws.Table.{cell_below}
use Rattle.arithmetic.proofs.Laws.Matrix.{filled_at, filled_self, filled_store}
use Rattle.arithmetic.proofs.Laws.Mask.{mask_change, mask_has}
use Rattle.plan_rule.specs.Plan.{changed}
use Rattle.plan_rule.specs.Steps.Agreement.{Agree}
use Rattle.plan_rule.proofs.Laws.Matching.{Move, move_fits, send}
use Rattle.plan_matching.specs.declared.Residue.{Residue}
use Rattle.plan_matching.specs.Steps.Residue.{residue, partial_plan, positive, Consistent, AsLent, Done, sends_least}

set_at : (l : List ℕ) (i v : ℕ) → i < length l → (x : ℕ) → at (set l i v) x ≡ changed (at l) i v x
set_at l i v h x =
    case≡ x i
    (λ e. rw (e, eqb_self i) (get_or-set_same l i v 0 h))
    (λ d. rw (ne_eqb x i d) (get_or-set_other l i x v 0 d))

module _ (n : ℕ) (l : List ℕ) (i j v : ℕ) (hi : i < n) (hj : j < n) (room : n * n ≤ length l) where
  set-cell : (x y : ℕ) → x < n → y < n → cell n (set l (i * n + j) v) x y ≡ changed (cell n l) i (changed (cell n l i) j v) x y
  set-cell x y hx hy =
      ap (λ (z : List ℕ). cell n z x y) (filled_store n (cell n l) (changed (cell n l) i (changed (cell n l i) j v)) l l i j v room hi hj
      (filled_self n (cell n l) l room (λ _ _ _ _. refl))
      (rw (eqb_self i, eqb_self j))
      (λ u w _ _ d. case≡ u i
      (λ e. rw (e, eqb_self i) (case≡ w j (λ f. absurd (d e f)) (λ f. rw (ne_eqb w j f))))
      (λ e. rw (ne_eqb u i e))))
      ∙ filled_at n (changed (cell n l) i (changed (cell n l i) j v)) l x y hx hy

  lent_set : AsLent n l (set l (i * n + j) v)
  lent_set = record {
    long = length-set l (i * n + j) v;
    rest = drop-set-lt (n * n) l (i * n + j) v (cell_below n i j hi hj);
  }

-- the word of the positive amounts, where vertex i has one, and after a store
module _ (n : ℕ) (l : List ℕ) (w i : ℕ) (hi : i < n) (e : w ≡ positive n l) (h : 0 < at l i) where
  pub word_has : 2 ^ i ≤ w
  unfolding positive
  word_has = rw e (mask_has n _ i hi (lt-ltb 0 (at l i) h))

  word_after : (v u : ℕ) → n ≤ length l → (v ≡ 0 → u ≡ w - 2 ^ i) × ((v ≡ 0 → ⊥) → u ≡ w) → u ≡ positive n (set l i v)
  unfolding positive
  word_after v u long (out, stay) =
      case≡ v 0
      (λ z. omega (arith, e, out z, rw (le-ltb 0 v (omega arith)) at change))
      (λ z. omega (arith, e, stay z, rw (lt-ltb 0 v (omega arith)) at change))
    where
      change : mask n (λ x. ltb 0 (at l x)) + pick (ltb 0 v) (2 ^ i) ≡ mask n (λ x. ltb 0 (at (set l i v) x)) + 2 ^ i
      change =
          rw (get_or-set_same l i v 0 (omega arith), lt-ltb 0 (at l i) h) at
          (mask_change n i (λ x. ltb 0 (at l x)) (λ x. ltb 0 (at (set l i v) x)) hi (λ x _ d. rw (get_or-set_other l i x v 0 d)))

module _ (n : ℕ) (r : Residue) (plan : List ℕ) (h : Consistent n r plan) (i j : ℕ) (hi : i < n) (hj : j < n)
    (pi : 0 < at r.surplus i) (pj : 0 < at r.deficit j) where
  -- the tables that a move leaves
  pub send_done : (v place a b : ℕ) → v ≡ min (at r.surplus i) (at r.deficit j) → place ≡ i * n + j
      → (at r.surplus i - v ≡ 0 → a ≡ r.senders - 2 ^ i) × ((at r.surplus i - v ≡ 0 → ⊥) → a ≡ r.senders)
      → (at r.deficit j - v ≡ 0 → b ≡ r.receivers - 2 ^ j) × ((at r.deficit j - v ≡ 0 → ⊥) → b ≡ r.receivers)
      → Done n (sends_least i j) r plan
      (residue a b (set r.surplus i (at r.surplus i - v)) (set r.deficit j (at r.deficit j - v))) (set plan place (at plan place + v))
  send_done v place a b ev ep ea eb = rw (ep, ev) (record {
    agree = agree;
    consistent = record {
      small = h.small;
      room = omega (arith, kept.long, h.room);
      long_s = rw length-set h.long_s;
      long_d = rw length-set h.long_d;
      apart = λ x l. omega (arith, agree.surplus x l, agree.deficit x l, move.surplus x, move.deficit x, h.apart x l);
      fits = λ x y l k. omega (arith, agree.sent x y l k, agree.surplus x l, move_fits move x y, h.fits x y l k);
      senders_are = word_after n r.surplus r.senders i hi h.senders_are pi _ _ h.long_s (rw ev at ea);
      receivers_are = word_after n r.deficit r.receivers j hj h.receivers_are pj _ _ h.long_d (rw ev at eb);
    };
    kept = kept;
  })
    where
      least : ℕ
      least = min (at r.surplus i) (at r.deficit j)

      move : Move n (λ _. true) (partial_plan n r plan) (sends_least i j (partial_plan n r plan))
      move = send n (λ _. true) (partial_plan n r plan) i j hi hj (refl, pi) (refl, pj)

      kept : AsLent n plan (set plan (i * n + j) (cell n plan i j + least))
      kept = lent_set n plan i j (cell n plan i j + least) hi hj h.room

      agree : Agree n (sends_least i j (partial_plan n r plan))
          (partial_plan n (residue a b (set r.surplus i (at r.surplus i - least)) (set r.deficit j (at r.deficit j - least)))
          (set plan (i * n + j) (cell n plan i j + least)))
      agree = record {
        sent = λ x y lx ly. sym (set-cell n plan i j (cell n plan i j + least) hi hj h.room x y lx ly);
        surplus = λ x _. sym (set_at r.surplus i (at r.surplus i - least) (omega (arith, h.long_s)) x);
        deficit = λ x _. sym (set_at r.deficit j (at r.deficit j - least) (omega (arith, h.long_d)) x);
      }
