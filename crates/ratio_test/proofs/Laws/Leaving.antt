-- The leaving edge. An edge from s to t closes a cycle with the paths from s and t up to their lowest common ancestor. Of the vertices on them whose
-- flow runs against the cycle one has the least flow; the edge above it leaves the tree.
use mathlib.Core.Path.{◌≡◌, refl, sym, ◌∙◌}
use mathlib.Core.Bool.{true, false}
use mathlib.Core.List.{List}
use mathlib.Core.Logic.{⊎_elim}
use Prim.Native.Nat.{ℕ, ◌-◌, ◌≤◌, ◌<◌}
use native.Mathlib.Omega.{arith}
use Rattle.std.specs.Prelude.{Option, Some, None, IsSome}
use Rattle.arithmetic.specs.Table.{at}
use Rattle.arithmetic.proofs.Laws.Bools.{case≡, clash, both, is_false}
use Rattle.rooted_tree.specs.Chain.{below}
use Rattle.rooted_tree.specs.Steps.Rooted.{Rooted}
use Rattle.rooted_tree.proofs.Laws.Rooted.{parent_out, trans_b, up_b, down_b}
use Rattle.tree_pivot.specs.Steps.PathWalk.{CanWalk}
use Rattle.tree_pivot.specs.Steps.PivotCost.{Upward, Leaving}
use Rattle.tree_pivot.proofs.Laws.PathWalk.{OnPath, path-inner}
use Rattle.ratio_test.specs.declared.PathFlow.{PathFlow}
use Rattle.ratio_test.specs.Steps.CommonAncestor.{LowestCommonAncestor}
use Rattle.ratio_test.specs.Steps.Leaving.{FlowUp, NoFlow, LeastFlow, PathLeast, IsLess, CanLeave, Exchanged}

-- ---- the walk from a up to b

module _ {n : ℕ} {p more less : ℕ → ℕ} {a b : ℕ} (can : CanWalk n 0 p a b) where
  pub flow_none : NoFlow n p more less a a
  flow_none x u = clash u.on u.off

  module _ {x : ℕ} (on : OnPath n p a b x) (go : x ≡ b → ⊥) where
    -- what is before the parent of x is x or before x
    before : (y : ℕ) → (x ≡ y → ⊥) → Upward n p more less a (p x) y → Upward n p more less a x y
    before y d u = record {
      low = u.low;
      on = u.on;
      off = is_false _ (λ h. clash (down_b can.tree x y on.low h d) u.off);
      flow = u.flow;
    }

    pub flow_still : more x ≤ less x → NoFlow n p more less a x → NoFlow n p more less a (p x)
    flow_still l w y u =
        case≡ x y (λ e. omega (arith, rw (← e) at u.flow)) (λ d. w y (before y d u))

    pub least_keep : {c flow : ℕ} → (less x < more x → flow ≤ more x - less x) → LeastFlow n p more less a x c flow → LeastFlow n p more less a (p x) c flow
    least_keep {c} l w = record {
      upward = record {
        low = w.upward.low;
        on = w.upward.on;
        off = is_false _ (λ h. clash (up_b can.tree x c on.low h) w.upward.off);
        flow = w.upward.flow;
      };
      flow_is = w.flow_is;
      least = λ y u. case≡ x y (λ e. rw (← e) (l (rw (← e) at u.flow))) (λ d. w.least y (before y d u));
    }

    pub least_take : less x < more x → ((y : ℕ) → Upward n p more less a x y → more x - less x ≤ more y - less y)
        → LeastFlow n p more less a (p x) x (more x - less x)
    least_take h w = record {
      upward = record { low = on.low; on = on.begun; off = parent_out can.tree x on.low (path-inner can on go); flow = h };
      flow_is = refl;
      least = λ y u. case≡ x y (λ e. rw (← e) (omega arith)) (λ d. w y (before y d u));
    }

-- the flow up from x, if there is one, against the least so far
module _ {n : ℕ} {p : ℕ → ℕ} {a b : ℕ} (can : CanWalk n 0 p a b) {x : ℕ} (on : OnPath n p a b x) (go : x ≡ b → ⊥) (more less : ℕ → ℕ) where
  pub least_step : (up least : Option PathFlow) → FlowUp x (more x) (less x) up → PathLeast n p more less a x least → IsLess up least
      → PathLeast n p more less a (p x) up
  least_step None least i w l = absurd l
  least_step (Some f) None i w l = rw (i.0, i.1.1) (least_take can on go i.1.0 (λ y u. absurd (w y u)))
  least_step (Some f) (Some g) i w l = rw (i.0, i.1.1) (least_take can on go i.1.0 (λ y u. omega (arith, i.1.1, l, w.least y u)))

  pub least_stay : (up least : Option PathFlow) → FlowUp x (more x) (less x) up → PathLeast n p more less a x least → (IsLess up least → ⊥)
      → PathLeast n p more less a (p x) least
  least_stay None None i w l = flow_still can on go i w
  least_stay (Some f) None i w l = absurd (l tt)
  least_stay None (Some g) i w l = least_keep can on go (λ h. absurd (omega arith)) w
  least_stay (Some f) (Some g) i w l = least_keep can on go (λ h. omega (arith, i.1.1, l)) w

-- ---- both paths
swap : {n : ℕ} {p : ℕ → ℕ} {s t w : ℕ} → LowestCommonAncestor n p s t w → LowestCommonAncestor n p t s w
swap j = record { common = record { low = j.common.low; over_a = j.common.over_b; over_b = j.common.over_a }; lowest = λ z h k. j.lowest z k h }

module _ {n : ℕ} {p : ℕ → ℕ} {a b w : ℕ} (t : Rooted n 0 p) (b_low : b < n) (j : LowestCommonAncestor n p a b w) where
  -- of the vertices above a, those above b are those above the ancestor
  same_off : (x : ℕ) → below p n a x ≡ true → below p n b x ≡ below p n w x
  same_off x h = both _ _ (j.lowest x h) (λ k. trans_b t w x b b_low j.common.over_b k)

  to_ancestor : {more less : ℕ → ℕ} {x : ℕ} → Upward n p more less a b x → Upward n p more less a w x
  to_ancestor {more} {less} {x} u = record { low = u.low; on = u.on; off = sym (same_off x u.on) ∙ u.off; flow = u.flow }

  of_ancestor : {more less : ℕ → ℕ} {x : ℕ} → Upward n p more less a w x → Upward n p more less a b x
  of_ancestor {more} {less} {x} u = record { low = u.low; on = u.on; off = same_off x u.on ∙ u.off; flow = u.flow }

-- the lesser of the two flows
least_of_both : {n : ℕ} {p more less : ℕ → ℕ} {a b w c f : ℕ} → Rooted n 0 p → a < n → b < n → LowestCommonAncestor n p a b w
    → LeastFlow n p more less a w c f → ((x : ℕ) → Upward n p less more b w x → f ≤ less x - more x) → Leaving n p more less a b c
least_of_both t a_low b_low j here there = record {
  upward = of_ancestor t b_low j here.upward;
  least = λ x u. omega (arith, here.flow_is, here.upward.flow, u.flow, here.least x (to_ancestor t b_low j u));
  least' = λ x u. omega (arith, here.flow_is, here.upward.flow, u.flow, there x (to_ancestor t a_low (swap j) u));
}

module _ {n : ℕ} {parents supply demand masks : List ℕ} {s t j : ℕ} (can : CanLeave n parents supply demand masks s t)
    (meets : LowestCommonAncestor n (at parents) s t j) where
  pub can_walk_s : CanWalk n 0 (at parents) s j
  can_walk_s = record { tree = can.meet.tree; from_low = can.meet.s_low; stop_low = meets.common.low; up = meets.common.over_a }

  pub can_walk_t : CanWalk n 0 (at parents) t j
  can_walk_t = record { tree = can.meet.tree; from_low = can.meet.t_low; stop_low = meets.common.low; up = meets.common.over_b }

  -- there is a flow on one of the two paths
  pub some_flow : NoFlow n (at parents) (at supply) (at demand) s j → NoFlow n (at parents) (at demand) (at supply) t j → ⊥
  some_flow up down =
      ⊎_elim
      (λ u. up can.against.0 (to_ancestor can.meet.tree can.meet.t_low meets u))
      (λ u. down can.against.0 (to_ancestor can.meet.tree can.meet.s_low (swap meets) u))
      can.against.1

  pub leaves_t : {d g : ℕ} → LeastFlow n (at parents) (at demand) (at supply) t j d g
      → ((x : ℕ) → Upward n (at parents) (at supply) (at demand) s j x → g ≤ at supply x - at demand x)
      → Exchanged n (at parents) (at supply) (at demand) s t t s d j true
  leaves_t down l = record {
    ancestor = (swap meets).common;
    leaves = (refl, (refl, least_of_both can.meet.tree can.meet.t_low can.meet.s_low (swap meets) down l));
  }

  pub leaves_s : {c f : ℕ} → LeastFlow n (at parents) (at supply) (at demand) s j c f
      → ((x : ℕ) → Upward n (at parents) (at demand) (at supply) t j x → f ≤ at demand x - at supply x)
      → Exchanged n (at parents) (at supply) (at demand) s t s t c j false
  leaves_s up l = record {
    ancestor = meets.common;
    leaves = (refl, (refl, least_of_both can.meet.tree can.meet.s_low can.meet.t_low meets up l));
  }

  -- the least flow of t's path, where it is the lesser, and that of s's path elsewhere
  pub turns_t : (up : Option PathFlow) (down : PathFlow) → PathLeast n (at parents) (at supply) (at demand) s j up
      → LeastFlow n (at parents) (at demand) (at supply) t j down.vertex down.flow → IsLess (Some down) up
      → Exchanged n (at parents) (at supply) (at demand) s t t s down.vertex j true
  turns_t None down u d l = leaves_t d (λ x h. absurd (u x h))
  turns_t (Some up) down u d l = leaves_t d (λ x h. omega (arith, l, u.least x h))

  pub turns_s : (up : PathFlow) (down : Option PathFlow) → LeastFlow n (at parents) (at supply) (at demand) s j up.vertex up.flow
      → PathLeast n (at parents) (at demand) (at supply) t j down → (IsLess down (Some up) → ⊥)
      → Exchanged n (at parents) (at supply) (at demand) s t s t up.vertex j false
  turns_s up None u d l = leaves_s u (λ x h. absurd (d x h))
  turns_s up (Some down) u d l = leaves_s u (λ x h. omega (arith, l, d.least x h))

  pub some_up : (up down : Option PathFlow) → PathLeast n (at parents) (at supply) (at demand) s j up
      → PathLeast n (at parents) (at demand) (at supply) t j down → (IsLess down up → ⊥) → IsSome up
  some_up None None u d l = absurd (some_flow u d)
  some_up None (Some down) u d l = absurd (l tt)
  some_up (Some up) down u d l = refl
