-- The potential after a pivot: that of the cut subtree is shifted until the entering edge is tight.
use mathlib.Core.Path.{◌≡◌, sym, ◌∙◌}
use mathlib.Core.Bool.{Bool, true, false, cond}
use mathlib.Core.Logic.{inl, inr, ⊎_elim}
use Prim.Native.Nat.{ℕ, ◌+◌, ◌*◌, ◌^◌, ◌≤◌, ◌<◌}
use native.Mathlib.Omega.{arith}
use borrow.Author.Tests.{ne_eqb}
use Rattle.arithmetic.specs.Steps.Product.{gap, Agrees}
use Rattle.arithmetic.proofs.Laws.Bools.{case, case≡}
use Rattle.arithmetic.proofs.Laws.Sum.{sum_ge}
use Rattle.rooted_tree.specs.Chain.{below, depth}
use Rattle.rooted_tree.specs.Steps.Rooted.{Rooted}
use Rattle.rooted_tree.specs.Steps.Subtotal.{subtotal}
use Rattle.rooted_tree.specs.Steps.Flow.{flow_cost}
use Rattle.rooted_tree.proofs.Laws.Rooted.{tree_ind, depth-step, depth-lt}
use Rattle.rooted_tree.proofs.Laws.Flow.{agrees_near}
use Rattle.tree_pivot.specs.Steps.Pivot.{Pivot}
use Rattle.tree_pivot.specs.Steps.PivotCost.{Potential}
use Rattle.vertex_set.specs.Steps.Shift.{shifted, Room}
use Rattle.tree_pivot.specs.Steps.PivotPotential.{Violated, Enters, violation}
use Rattle.tree_pivot.proofs.Laws.Pivot.{root_out, q_into, a-step, new_tree, total_a}
use Rattle.tree_pivot.proofs.Laws.PivotCost.{mirrored, new_agrees, pivot_falls, pivot_falls'}

agrees_more : (k u w d a b : ℕ) → Agrees u w d a b → Agrees (u + k) (w + k) d a b
agrees_more k u w d a b = ⊎_elim (λ h. inl (h.0, omega arith)) (λ h. inr (h.0, omega arith))

agrees_less : (k u w d a b : ℕ) → Agrees (u + k) (w + k) d a b → Agrees u w d a b
agrees_less k u w d a b = ⊎_elim (λ h. inl (h.0, omega arith)) (λ h. inr (h.0, omega arith))

violated_gap : (rises : Bool) (u w long : ℕ) → Violated rises u w long → long ≤ gap u w
violated_gap false u w long h = omega arith
violated_gap true u w long h = omega arith

pub enters_gap : {rises : Bool} {n : ℕ} {p m v U : ℕ → ℕ} {a b c long : ℕ} → Enters rises n p m v U a b c long → long ≤ gap (U a) (U b)
enters_gap {rises} h = violated_gap rises _ _ _ h.violated

-- over edges of at most 65535 a potential is no further from the root's than 65535 for each step
pub near_root : {n r : ℕ} {p : ℕ → ℕ} (t : Rooted n r p) (W : ℕ → ℕ)
    → ((x : ℕ) → x < n → (x ≡ r → ⊥) → (W x ≤ W (p x) + 65535) × (W (p x) ≤ W x + 65535))
    → (x : ℕ) → x < n → (W x ≤ W r + 65535 * depth p r n x) × (W r ≤ W x + 65535 * depth p r n x)
near_root {n} {r} {p} t W near =
    tree_ind t (λ x. (W x ≤ W r + 65535 * depth p r n x) × (W r ≤ W x + 65535 * depth p r n x))
    (omega arith, omega arith)
    (λ x l d h. let z = near x l d in (omega (arith, depth-step t x l d), omega (arith, depth-step t x l d)))

module _ {n r : ℕ} {p : ℕ → ℕ} {a b c : ℕ} {q : ℕ → ℕ} (w : Pivot n r p a b c q)
    {len : ℕ → ℕ → ℕ} (len-sym : (x y : ℕ) → len x y ≡ len y x)
    {m v U : ℕ → ℕ} (u : Potential n r p len m v U) where
  -- at every vertex but a the old potential agrees with the new flow
  agrees_still : (rises : Bool) → Enters rises n p m v U a b c (len a b) → (x : ℕ) → x < n → (x ≡ r → ⊥) → (x ≡ a → ⊥)
      → Agrees (U x) (U (q x)) (len x (q x)) (subtotal q n m x) (subtotal q n v x)
  agrees_still false h x l d ne = new_agrees w len-sym u h.leaves x l d ne
  agrees_still true h x l d ne =
      let s = sum_ge n x U l in
      let z = sum_ge n (q x) U (q_into w x l) in
      ⊎_elim (λ k. inr (k.0, omega arith)) (λ k. inl (k.0, omega arith))
      (new_agrees w len-sym (mirrored w.cut.tree u) h.leaves x l d ne)

  pub cost_falls : (rises : Bool) → Enters rises n p m v U a b c (len a b)
      → flow_cost n r q (λ x. len x (q x)) m v < flow_cost n r p (λ x. len x (p x)) m v
  cost_falls false h = pivot_falls w len-sym u h.leaves h.violated
  cost_falls true h = pivot_falls' w len-sym u h.leaves h.violated

  -- both sides raised so that the edge between a and b is tight: what is added outside the subtree, and inside
  outside : Bool → ℕ
  outside false = U a
  outside true = U a + len a b

  inside : Bool → ℕ
  inside false = U b + len a b
  inside true = U b

  raised : Bool → ℕ → ℕ
  raised rises x = U x + cond (below p n x c) (inside rises) (outside rises)

  at_edge : (rises : Bool) → Enters rises n p m v U a b c (len a b)
      → Agrees (U a + inside rises) (U b + outside rises) (len a b) (subtotal p n m c) (subtotal p n v c)
  unfolding inside outside
  at_edge false h = inl (omega (arith, h.leaves.upward.flow), omega arith)
  at_edge true h = inr (omega (arith, h.leaves.upward.flow), omega arith)

  raised_agrees : (rises : Bool) → Enters rises n p m v U a b c (len a b) → (x : ℕ) → x < n → (x ≡ r → ⊥)
      → Agrees (raised rises x) (raised rises (q x)) (len x (q x)) (subtotal q n m x) (subtotal q n v x)
  unfolding raised
  raised_agrees rises h x l d =
      case≡ x a
      (λ e. rw (e, w.hung, w.cut.a_in, w.cut.b_out, total_a w m, total_a w v) (at_edge rises h))
      (λ ne.
      let same : below p n (q x) c ≡ below p n x c = sym (a-step w x l d ∙ rw (ne_eqb x a ne)) in
      rw same (agrees_more _ _ _ _ _ _ (agrees_still rises h x l d ne)))

  module _ (short : (x y : ℕ) → len x y ≤ 65535) (few : n ≤ 64) (grounded : U r ≡ 2 ^ 23) where
    -- it keeps near the root's: a step is at most 65535, and there are no more than 63
    raised_near : (rises : Bool) → Enters rises n p m v U a b c (len a b) → (x : ℕ) → x < n
        → (raised rises x ≤ 2 ^ 23 + outside rises + 65535 * 63) × (2 ^ 23 + outside rises ≤ raised rises x + 65535 * 63)
    unfolding raised
    raised_near rises h x l =
        let z = near_root (new_tree w) (raised rises)
        (λ y k d.
        let near = agrees_near _ _ _ _ _ (raised_agrees rises h y k d) in
        let s = short y (q y) in
        (omega arith, omega arith)) x l in
        let root : raised rises r ≡ 2 ^ 23 + outside rises = rw (root_out w, grounded) in
        let d = depth-lt (new_tree w) x l in
        (omega arith, omega arith)

    -- the shift fits
    pub shift_room : (rises : Bool) → Enters rises n p m v U a b c (len a b) → (x : ℕ) → x < n → below p n x c ≡ true
        → Room 32 rises (violation (U a) (U b) (len a b)) (U x)
    unfolding raised inside outside
    shift_room false h x l e = let z = rw e at (raised_near false h x l).1 in omega (arith, h.violated)
    shift_room true h x l e = let z = rw e at (raised_near true h x l).0 in omega (arith, h.violated)

    shift_is : (rises : Bool) → Enters rises n p m v U a b c (len a b) → (x : ℕ) → x < n → below p n x c ≡ true
        → shifted rises (violation (U a) (U b) (len a b)) (U x) + outside rises ≡ U x + inside rises
    unfolding inside outside
    shift_is false h x l e = let z = shift_room false h x l e in omega (arith, h.violated)
    shift_is true h x l e = omega (arith, h.violated)

    module _ (rises : Bool) (h : Enters rises n p m v U a b c (len a b)) (U' : ℕ → ℕ)
        (new : (x : ℕ) → x < n → U' x ≡ cond (below p n x c) (shifted rises (violation (U a) (U b) (len a b)) (U x)) (U x)) where
      new_is : (x : ℕ) → x < n → U' x + outside rises ≡ raised rises x
      unfolding raised
      new_is x l =
          case (below p n x c)
          (λ e. rw (new x l, e) (shift_is rises h x l e))
          (λ e. rw (new x l, e))

      -- the shifted potential is the new tree's
      pub new_potential : ((x : ℕ) → x < n → (x ≡ r → ⊥) → subtotal q n m x ≡ subtotal q n v x → ⊥) → Potential n r q len m v U'
      new_potential nonzero = record {
        same = u.same;
        nonzero = nonzero;
        agrees = λ x l d.
            agrees_less (outside rises) _ _ _ _ _ (rw (new_is x l, new_is (q x) (q_into w x l)) (raised_agrees rises h x l d));
      }

      pub new_grounded : U' r ≡ 2 ^ 23
      new_grounded = new r w.cut.tree.root ∙ rw (root_out w, grounded)
