-- The exchange in a basis: where the potential falls along an edge by more than its length, another edge can leave for it.
use mathlib.Core.Path.{◌≡◌, sym, ◌∙◌}
use mathlib.Core.Bool.{Bool, true, false}
use mathlib.Core.Logic.{inl, inr, ⊎_elim}
use Prim.Native.Nat.{ℕ, ◌<◌}
use native.Mathlib.Omega.{arith}
use Rattle.arithmetic.specs.Table.{at}
use Rattle.graph.specs.Graph.{Graph}
use Rattle.tree_pivot.specs.Steps.PivotCost.{Upward, Leaving}
use Rattle.tree_pivot.specs.Steps.Basis.{Tables, IsBasis}
use Rattle.tree_pivot.specs.Steps.PivotBasis.{CanPivot}
use Rattle.ratio_test.specs.Steps.Leaving.{CanLeave, HangsBy}
use Rattle.pricing.proofs.Laws.Entering.{Falling}
use Rattle.ratio_test.proofs.Laws.Candidates.{upward_exists}

-- ---- the same flows by other functions
abbrev Same : ℕ → (f g : ℕ → ℕ) → Type 0
Same n f g = (x : ℕ) → x < n → f x ≡ g x

back : {n : ℕ} {f g : ℕ → ℕ} → Same n f g → Same n g f
back same x l = sym (same x l)

upward_same : {n : ℕ} {p more less more' less' : ℕ → ℕ} {a b x : ℕ} → Same n more more' → Same n less less'
    → Upward n p more less a b x → Upward n p more' less' a b x
upward_same {x = x} more-is less-is k =
    record { low = k.low; on = k.on; off = k.off; flow = omega (arith, more-is x k.low, less-is x k.low, k.flow) }

leaving_same : {n : ℕ} {p more less more' less' : ℕ → ℕ} {a b c : ℕ} → Same n more more' → Same n less less'
    → Leaving n p more less a b c → Leaving n p more' less' a b c
leaving_same {c = c} more-is less-is l =
    let e = more-is c l.upward.low in
    let f = less-is c l.upward.low in
    record {
      upward = upward_same more-is less-is l.upward;
      least = λ x k. omega (arith, l.least x (upward_same (back more-is) (back less-is) k), more-is x k.low, less-is x k.low);
      least' = λ x k. omega (arith, l.least' x (upward_same (back less-is) (back more-is) k), more-is x k.low, less-is x k.low);
    }

-- ---- in a basis
module _ {g : Graph} {m v : ℕ → ℕ} {t : Tables} (basis : IsBasis g m v t) {s d long : ℕ} (edge : Falling g t.potential s d long) where
  -- there is a flow against the cycle
  pub can_leave : CanLeave g.n t.parents t.supply t.demand t.masks s d
  can_leave = record {
    meet = record { few = basis.network.few; tree = basis.tree; masks_are = basis.masks_are; s_low = edge.s_low; t_low = edge.t_low };
    against =
        let z = upward_exists basis.tree basis.balances s d edge.s_low edge.t_low (omega (arith, edge.falls)) in
        let more = back basis.supply_is in
        let less = back basis.demand_is in
        (z.0, ⊎_elim (λ k. inl (upward_same more less k)) (λ k. inr (upward_same less more k)) z.1);
  }

  -- what leaves makes a pivot
  pub can_pivot : (rises : Bool) {a b c k : ℕ} → k ≡ long → HangsBy rises g.n (at t.parents) (at t.supply) (at t.demand) s d a b c
      → CanPivot g m v a b c k rises t
  can_pivot false e l = rw (e, l.0, l.1.0) (record {
    basis = basis;
    a_low = edge.s_low;
    b_low = edge.t_low;
    edge = edge.edge;
    length_is = edge.length_is;
    enters = record { violated = edge.falls; leaves = leaving_same basis.supply_is basis.demand_is l.1.1 };
  })
  can_pivot true e l = rw (e, l.0, l.1.0) (record {
    basis = basis;
    a_low = edge.t_low;
    b_low = edge.s_low;
    edge = basis.network.joined_back s d edge.edge;
    length_is = edge.length_is ∙ basis.network.symmetric s d;
    enters = record { violated = edge.falls; leaves = leaving_same basis.demand_is basis.supply_is l.1.1 };
  })
