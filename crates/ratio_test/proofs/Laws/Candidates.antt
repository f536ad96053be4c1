-- There is a candidate to leave: where the potential falls from a to b, the flow goes up from a vertex above a and not above b, or down to
-- one above b and not above a.
use mathlib.Core.Path.{◌≡◌}
use mathlib.Core.Bool.{Bool, true, false, not, ◌&&◌, ◌||◌}
use mathlib.Core.Logic.{◌⊎◌, inl, inr}
use Prim.Native.Nat.{ℕ, ◌≤◌, ◌<◌}
use native.Mathlib.Omega.{arith}
use lib.Dec.{ltb}
use borrow.Author.Tests.{lt-ltb, ltb-true, not-true}
use Rattle.arithmetic.specs.Bools.{any}
use Rattle.arithmetic.proofs.Laws.Bools.{case, clash, is_true, and_l, and_r, or_elim, or-true_l, or_true_r, any_at, any_intro}
use Rattle.rooted_tree.specs.Chain.{below}
use Rattle.rooted_tree.specs.Steps.Rooted.{Rooted}
use Rattle.rooted_tree.specs.Steps.Subtotal.{subtotal}
use Rattle.rooted_tree.proofs.Laws.Flow.{height_unique, height_mono}
use Rattle.tree_pivot.specs.Steps.PivotCost.{Potential, Upward}

is_upward : ℕ → (p more less : ℕ → ℕ) → (a b x : ℕ) → Bool
is_upward n p more less a b x = below p n a x && (not (below p n b x) && ltb (less x) (more x))

module _ (n : ℕ) (p more less : ℕ → ℕ) (a b x : ℕ) where
  upward_test : Upward n p more less a b x → is_upward n p more less a b x ≡ true
  unfolding is_upward
  upward_test k = rw (k.on, k.off, lt-ltb _ _ k.flow)

  upward_of : x < n → is_upward n p more less a b x ≡ true → Upward n p more less a b x
  unfolding is_upward
  upward_of l h =
      let off-flow = and_r (below p n a x) (not (below p n b x) && ltb (less x) (more x)) h in
      record {
        low = l;
        on = and_l (below p n a x) _ h;
        off = not-true _ (and_l (not (below p n b x)) _ off-flow);
        flow = ltb-true _ _ (and_r (not (below p n b x)) _ off-flow);
      }

module _ {n r : ℕ} {p : ℕ → ℕ} (t : Rooted n r p) {len : ℕ → ℕ → ℕ} {m v U : ℕ → ℕ} (u : Potential n r p len m v U) (a b : ℕ) where
  either : ℕ → Bool
  either x = is_upward n p (subtotal p n m) (subtotal p n v) a b x || is_upward n p (subtotal p n v) (subtotal p n m) b a x

  no_higher : a < n → b < n → any n either ≡ false → U a ≤ U b
  unfolding either
  no_higher la lb none =
      omega (
        arith,
        height_unique t (λ x. len x (p x)) m v U u.nonzero u.agrees a la,
        height_unique t (λ x. len x (p x)) m v U u.nonzero u.agrees b lb,
        height_mono t (λ x. len x (p x)) m v a b
            (λ x l d e h. is_true _ (λ f.
            let ne = u.nonzero x l d in
            clash (any_intro n either x l (or-true_l _ _ (upward_test n p _ _ a b x (record { low = l; on = e; off = f; flow = omega arith })))) none))
            (λ x l d e h. is_true _ (λ f.
            clash (any_intro n either x l (or_true_r (is_upward n p (subtotal p n m) (subtotal p n v) a b x) _ (upward_test n p _ _ b a x (record { low = l; on = e; off = f; flow = h })))) none)),
      )

  pub upward_exists : a < n → b < n → U b < U a → (x : ℕ) × (Upward n p (subtotal p n m) (subtotal p n v) a b x ⊎ Upward n p (subtotal p n v) (subtotal p n m) b a x)
  unfolding either
  upward_exists la lb lt =
      case (any n either)
      (λ h.
      let z = any_at n either h in (
        z.0,
        or_elim (is_upward n p (subtotal p n m) (subtotal p n v) a b z.0) (is_upward n p (subtotal p n v) (subtotal p n m) b a z.0) z.1.1
            (λ e. inl (upward_of n p _ _ a b z.0 z.1.0 e))
            (λ e. inr (upward_of n p _ _ b a z.0 z.1.0 e)),
      ))
      (λ h. absurd (omega (arith, no_higher la lb h)))
