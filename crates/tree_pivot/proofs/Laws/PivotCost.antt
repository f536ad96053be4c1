-- A pivot at an edge that the potential violates lowers the cost.
use mathlib.Core.Path.{◌≡◌, sym}
use mathlib.Core.Bool.{Bool, true, false}
use mathlib.Core.Logic.{inl, inr, ⊎_elim}
use Prim.Native.Nat.{ℕ, ◌+◌, ◌-◌, ◌≤◌, ◌<◌}
use native.Mathlib.Omega.{arith}
use Rattle.arithmetic.specs.Sum.{pick, sum}
use Rattle.arithmetic.specs.Steps.Product.{gap, Agrees}
use Rattle.arithmetic.proofs.Laws.Bools.{case, case≡, clash, is_false}
use Rattle.arithmetic.proofs.Laws.Sum.{sum_ge}
use Rattle.rooted_tree.specs.Chain.{below}
use Rattle.rooted_tree.specs.Steps.Rooted.{Rooted}
use Rattle.rooted_tree.specs.Steps.Subtotal.{subtotal}
use Rattle.rooted_tree.specs.Steps.Flow.{flow_cost}
use Rattle.rooted_tree.proofs.Laws.Rooted.{trans_b, out-b, comparable, all-b, not_root}
use Rattle.rooted_tree.proofs.Laws.Flow.{flow_swap, flow_longer, tree_strong}
use Rattle.tree_pivot.specs.Steps.Pivot.{Cut, Pivot, end, path, side, out}
use Rattle.tree_pivot.specs.Steps.PivotCost.{Potential, Upward, Leaving}
use Rattle.tree_pivot.proofs.Laws.Pivot.{place, new_tree, total_a, total_side, total_path, total_out}

-- an agreement passes to a flow of the same sign
keeps : (u w d a b a' b' : ℕ) → (a ≡ b → ⊥) → (b < a → b' ≤ a') → (a < b → a' ≤ b') → Agrees u w d a b → Agrees u w d a' b'
keeps u w d a b a' b' ne f g = ⊎_elim (λ h. inl (f (omega arith), h.1)) (λ h. inr (g (omega arith), h.1))

agrees_swap : (u w d a b : ℕ) → Agrees u w d a b → Agrees w u d b a
agrees_swap u w d a b = ⊎_elim inr inl

module _ {n r : ℕ} {p : ℕ → ℕ} {a b c : ℕ} {q : ℕ → ℕ} (w : Pivot n r p a b c q)
    {len : ℕ → ℕ → ℕ} (len-sym : (x y : ℕ) → len x y ≡ len y x)
    {m v U : ℕ → ℕ} (u : Potential n r p len m v U) (c-least : Leaving n p (subtotal p n m) (subtotal p n v) a b c) where
  -- above a and not below c is above c
  above_c : (x : ℕ) → below p n x c ≡ false → below p n a x ≡ true → below p n c x ≡ true
  above_c x e f = comparable w.cut.tree x c a w.cut.a_low f w.cut.a_in e

  -- the new subtotals of a vertex out of the subtree
  Moved : ℕ → Bool → Bool → Type 0
  Moved x s t =
      (subtotal q n m x + pick s (subtotal p n m c) ≡ subtotal p n m x + pick t (subtotal p n m c))
      × (subtotal q n v x + pick s (subtotal p n v c) ≡ subtotal p n v x + pick t (subtotal p n v c))

  moved : (x : ℕ) (s t : Bool) → x < n → below p n x c ≡ false → below p n c x ≡ s → below p n b x ≡ t → Moved x s t
  unfolding Moved
  moved x s t l e i j = (rw (i, j) at (total_out w m x l e), rw (i, j) at (total_out w v x l e))

  out_up : (x : ℕ) → x < n → below p n x c ≡ false → subtotal p n v x < subtotal p n m x → subtotal q n v x ≤ subtotal q n m x
  unfolding Moved
  out_up x l e h =
      case (below p n c x)
      (λ i. case (below p n b x)
      (λ j. let z = moved x true true l e i j in omega arith)
      (λ j.
      let z = moved x true false l e i j in
      omega (arith, c-least.least x (record { low = l; on = trans_b w.cut.tree c x a w.cut.a_low w.cut.a_in i; off = j; flow = h }))))
      (λ i. case (below p n b x)
      (λ j. let z = moved x false true l e i j in omega (arith, c-least.upward.flow))
      (λ j. let z = moved x false false l e i j in omega arith))

  out_down : (x : ℕ) → x < n → below p n x c ≡ false → subtotal p n m x < subtotal p n v x → subtotal q n m x ≤ subtotal q n v x
  unfolding Moved
  out_down x l e h =
      case (below p n c x)
      (λ i. case (below p n b x)
      (λ j. let z = moved x true true l e i j in omega arith)
      (λ j. let z = moved x true false l e i j in omega (arith, c-least.upward.flow)))
      (λ i. case (below p n b x)
      (λ j.
      let z = moved x false true l e i j in
      omega (arith, c-least.least' x (record { low = l; on = j; off = is_false _ (λ k. clash (above_c x e k) i); flow = h })))
      (λ j. let z = moved x false false l e i j in omega arith))

  -- at every vertex but a the old potential agrees with the new flow
  pub new_agrees : (x : ℕ) → x < n → (x ≡ r → ⊥) → (x ≡ a → ⊥)
      → Agrees (U x) (U (q x)) (len x (q x)) (subtotal q n m x) (subtotal q n v x)
  new_agrees x l d ne =
      elim (place w x l) [
        | end e ↦ absurd (ne e)
        | path f e g i z ↦
            let not-r : q x ≡ r → ⊥ = not_root w.cut.tree c (q x) w.cut.c_root g in
            let old : Agrees (U (q x)) (U x) (len x (q x)) (subtotal p n m (q x)) (subtotal p n v (q x)) =
            rw (len-sym x (q x)) (rw z.over at (u.agrees (q x) z.low not-r)) in
            keeps (U x) (U (q x)) (len x (q x)) (subtotal p n v (q x)) (subtotal p n m (q x)) (subtotal q n m x) (subtotal q n v x)
            (λ h. u.nonzero (q x) z.low not-r (sym h))
            (λ h. omega (arith, total_path w m x l e f i, total_path w v x l e f i, c-least.upward.flow))
            (λ h. omega (
              arith,
              total_path w m x l e f i,
              total_path w v x l e f i,
              c-least.least (q x) (record { low = z.low; on = z.from; off = out-b w.cut.tree (q x) c b w.cut.b_low g w.cut.b_out; flow = h }),
            ))
            (agrees_swap _ _ _ _ _ old)
        | side f e g i ↦ rw (i, total_side w m x l e f, total_side w v x l e f) (u.agrees x l d)
        | out e f g ↦
            rw g
            (keeps (U x) (U (p x)) (len x (p x)) (subtotal p n m x) (subtotal p n v x) (subtotal q n m x) (subtotal q n v x)
            (u.nonzero x l d)
            (out_up x l e)
            (out_down x l e)
            (u.agrees x l d))
      ]

  -- the lengths with which the old potential agrees with the new flow everywhere
  changes : ℕ → ℕ
  changes x = gap (U x) (U (q x))

  pub pivot_falls : U b + len a b < U a → flow_cost n r q (λ x. len x (q x)) m v < flow_cost n r p (λ x. len x (p x)) m v
  unfolding changes
  pivot_falls violates =
      omega (
        arith,
        flow_longer n r q (λ x. len x (q x)) changes m v
            (λ x l d. case≡ x a (λ e. rw (e, w.hung) (omega arith)) (λ e. ⊎_elim (λ h. omega arith) (λ h. omega arith) (new_agrees x l d e)))
            a w.cut.a_low (not_root w.cut.tree c a w.cut.c_root w.cut.a_in)
            (rw w.hung (omega arith))
            (rw (total_a w m, total_a w v) c-least.upward.flow),
        tree_strong w.cut.tree U (λ x. len x (p x)) m v u.same u.agrees,
        tree_strong (new_tree w) U changes m v u.same (λ x l d.
            case≡ x a
            (λ e. rw (e, w.hung, total_a w m, total_a w v) (inl (omega (arith, c-least.upward.flow), omega arith)))
            (λ e. ⊎_elim (λ h. inl (h.0, omega arith)) (λ h. inr (h.0, omega arith)) (new_agrees x l d e))),
      )

-- ---- the other side: the masses change places, and the potential its sign
pub mirrored : {n r : ℕ} {p : ℕ → ℕ} {len : ℕ → ℕ → ℕ} {m v U : ℕ → ℕ} → Rooted n r p → Potential n r p len m v U
    → Potential n r p len v m (λ x. sum n U - U x)
mirrored {n} {r} {p} {len} {m} {v} {U} t u = record {
  same = sym u.same;
  nonzero = λ x l d e. u.nonzero x l d (sym e);
  agrees = λ x l d. ⊎_elim
      (λ h. inr (h.0, omega (arith, sum_ge n x U l)))
      (λ h. inl (h.0, omega (arith, sum_ge n (p x) U (t.into x l))))
      (u.agrees x l d);
}

module _ {n r : ℕ} {p : ℕ → ℕ} {a b c : ℕ} {q : ℕ → ℕ} (w : Pivot n r p a b c q)
    {len : ℕ → ℕ → ℕ} (len-sym : (x y : ℕ) → len x y ≡ len y x)
    {m v U : ℕ → ℕ} (u : Potential n r p len m v U) (c-least : Leaving n p (subtotal p n v) (subtotal p n m) a b c) where
  pub pivot_falls' : U a + len a b < U b → flow_cost n r q (λ x. len x (q x)) m v < flow_cost n r p (λ x. len x (p x)) m v
  pivot_falls' violates =
      omega (
        arith,
        pivot_falls w len-sym (mirrored w.cut.tree u) c-least (omega (arith, sum_ge n b U w.cut.b_low)),
        flow_swap n r q (λ x. len x (q x)) m v,
        flow_swap n r p (λ x. len x (p x)) m v,
      )

-- ---- what leaves can be cut off
pub cut_of : {n r : ℕ} {p more less : ℕ → ℕ} {a b c : ℕ} → Rooted n r p → a < n → b < n → Upward n p more less a b c → Cut n r p a b c
cut_of t la lb k = record {
  tree = t;
  a_low = la;
  b_low = lb;
  c_low = k.low;
  c_root = λ e. clash (rw e at (all-b t _ lb)) k.off;
  a_in = k.on;
  b_out = k.off;
}
