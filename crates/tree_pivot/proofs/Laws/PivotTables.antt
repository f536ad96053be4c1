-- The steps of a pivot: what is kept of each vertex is brought from the old tree to the new one by walks along paths.
use mathlib.Core.Path.{◌≡◌, refl, ◌∙◌}
use mathlib.Core.Bool.{Bool}
use mathlib.Core.List.{List}
use Prim.Native.Nat.{ℕ, ◌+◌, ◌-◌, ◌^◌, ◌≤◌, ◌<◌}
use native.Mathlib.Omega.{arith}
use lib.ListN.{set}
use Rattle.std.specs.Prelude.{MatchBool}
use Rattle.arithmetic.specs.Table.{at}
use Rattle.vertex_set.proofs.Laws.Shift.{room_fits, shifted_is}
use Rattle.tree_pivot.specs.Steps.PathWalk.{Handed}
use Rattle.tree_pivot.specs.Steps.PivotTables.{CanShift, CanComplement, PathShifted, PathComplemented}
use Rattle.tree_pivot.proofs.Laws.PathWalk.{OnPath, path_met, hand_none, hand_more, stored_none, stored_kept, stored_more, stored_end}

-- ---- one vertex of a walk
module _ {n r : ℕ} {p : List ℕ} {from stop : ℕ} {rises : Bool} {d : ℕ} {t : List ℕ} (can : CanShift n r p from stop rises d t)
    {y : ℕ} (on : OnPath n (at p) from stop y) (go : y ≡ stop → ⊥) {u : List ℕ} (w : PathShifted n p from y rises d t u) where
  pub shift_room : MatchBool rises (at u y + d < 2 ^ 64) (d ≤ at u y)
  shift_room =
      rw (stored_kept can.store.walk on w)
      (room_fits 64 rises d (at t y) (can.room y on.low (path_met can.store.walk on go)))

  pub shift_more : (k : ℕ) → MatchBool rises (k ≡ at u y + d) (k ≡ at u y - d) → PathShifted n p from (at p y) rises d t (set u y k)
  shift_more k e =
      stored_more can.store.walk on w go _ (omega (arith, on.low, can.store.few, can.store.size))
      (shifted_is rises d (at u y) k e ∙ rw (stored_kept can.store.walk on w))

-- the path before y is done, and y is handed e
pub record Complementing (n : ℕ) (p : List ℕ) (a y total : ℕ) (t u : List ℕ) (e : ℕ) : Type 0 where
  pub done : PathComplemented n p a y total t u
  pub handed : Handed n (at p) a (at t) 0 y e
  pub least : e ≤ total

module _ {n r : ℕ} {p : List ℕ} {a stop total : ℕ} {t : List ℕ} (can : CanComplement n r p a stop total t) where
  pub complement_none : Complementing n p a a total t t 0
  complement_none = record { done = stored_none can.store.walk; handed = hand_none can.store.walk _ 0; least = omega arith }

  module _ {y : ℕ} (on : OnPath n (at p) a stop y) {u : List ℕ} {e : ℕ} (w : Complementing n p a y total t u e) where
    pub complement_more : (y ≡ stop → ⊥) → {own : ℕ} → own ≡ at u y → Complementing n p a (at p y) total t (set u y (total - e)) own
    complement_more go is = rw (is ∙ stored_kept can.store.walk on w.done) (record {
      done =
          stored_more can.store.walk on w.done go _ (omega (arith, on.low, can.store.few, can.store.size)) (_, (w.handed, refl));
      handed = hand_more can.store.walk on go _ 0;
      least = can.least y on.low (path_met can.store.walk on go);
    })

    pub complement_end : y ≡ stop → PathComplemented n p a stop total t u
    complement_end end = stored_end can.store.walk on w.done end
