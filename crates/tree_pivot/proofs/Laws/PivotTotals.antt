-- The subtotals of a mass after a pivot: the subtree's total is taken from the vertices above c, given to those above b, and the path
-- from a up to c is reversed.
use mathlib.Core.Path.{◌≡◌, refl, sym, ◌∙◌}
use mathlib.Core.Bool.{true, false}
use mathlib.Core.List.{List}
use Prim.Native.Nat.{ℕ, ◌+◌, ◌^◌, ◌≤◌, ◌<◌}
use native.Mathlib.Omega.{arith}
use Rattle.arithmetic.specs.Sum.{pick, sum}
use Rattle.arithmetic.specs.Table.{at}
use Rattle.arithmetic.proofs.Laws.Bools.{case, clash, is_false, and_l}
use Rattle.arithmetic.proofs.Laws.Sum.{pick-le, sum-le, sum-add}
use Rattle.rooted_tree.specs.Chain.{below}
use Rattle.rooted_tree.specs.Steps.Rooted.{Rooted}
use Rattle.rooted_tree.specs.Steps.Subtotal.{subtotal}
use Rattle.rooted_tree.proofs.Laws.Rooted.{refl_b, up_b, down_b, trans_b, comparable}
use Rattle.tree_pivot.specs.Steps.Pivot.{Pivot, end, path, side, out}
use Rattle.tree_pivot.specs.Steps.PivotTables.{CanShift, CanComplement, PathShifted, PathComplemented, Totals, CanMove, TotalsMoved}
use Rattle.tree_pivot.proofs.Laws.Pivot.{place, apart, total_a, total_side, total_path, total_out}
use Rattle.tree_pivot.proofs.Laws.PathWalk.{met_not, and-not, not_both}
use Rattle.tree_pivot.proofs.Laws.PathReversal.{over_low, over_c, not_over, not-b, can_turn, met_path, path_in, unmet_out}

module _ {n r : ℕ} {p : ℕ → ℕ} (t : Rooted n r p) (f : ℕ → ℕ) where
  -- what is below x has no more below it than x
  subtotal-le : (x y : ℕ) → below p n y x ≡ true → subtotal p n f y ≤ subtotal p n f x
  unfolding subtotal
  subtotal-le x y h =
      sum-le n _ _ (λ z l. case (below p n z y)
      (λ e. rw (e, trans_b t y x z l e h) (omega arith))
      (λ e. rw e (omega arith)))

  subtotal-all : (x : ℕ) → subtotal p n f x ≤ sum n f
  unfolding subtotal
  subtotal-all x = sum-le n _ f (λ z l. pick-le (below p n z x) (f z))

  -- two subtrees of which none is within the other have no vertex in common
  subtotal-apart : (x y : ℕ) → below p n x y ≡ false → below p n y x ≡ false → subtotal p n f x + subtotal p n f y ≤ sum n f
  unfolding subtotal
  subtotal-apart x y g h =
      rw (← (sum-add n (λ z. pick (below p n z x) (f z)) (λ z. pick (below p n z y) (f z))))
      (sum-le n _ f (λ z l. case (below p n z x)
      (λ e. case (below p n z y)
      (λ i. clash (comparable t x y z l e i g) h)
      (λ i. rw (e, i) (omega arith)))
      (λ e. rw e (omega (arith, pick-le (below p n z y) (f z))))))

-- ---- the walks
module _ {n r : ℕ} {p : List ℕ} {a b c j : ℕ} {t : List ℕ} (can : CanMove n r p a b c j t) {d : ℕ} (d-is : d ≡ at t c) where
  tree : Rooted n r (at p)
  tree = can.cut.tree

  c_mass : d ≡ subtotal (at p) n can.mass c
  c_mass = d-is ∙ can.totals c can.cut.c_low

  pub can_take : CanShift n r p (at p c) j false (d) t
  can_take = record {
    store = record {
      few = can.few;
      walk = record {
        tree = tree;
        from_low = over_low can.cut;
        stop_low = can.j_low;
        up = down_b tree c j can.cut.c_low can.over_c
            (λ e. apart (λ u. below (at p) n b u) can.over_b can.cut.b_out (sym e));
      };
      size = can.size;
    };
    room = λ x l h.
        rw (can.totals x l, c_mass)
        (subtotal-le tree can.mass x c (up_b tree c x can.cut.c_low (and_l (below (at p) n (at p c) x) _ h)));
  }

  module _ {u : List ℕ} (taken : PathShifted n p (at p c) j false (d) t u) where
    give_room : (x : ℕ) → x < n → below (at p) n b x ≡ true → below (at p) n j x ≡ false → at u x + d < 2 ^ 64
    give_room x l e f =
        let g : below (at p) n x c ≡ false = is_false _ (λ h. clash e (not-b can.cut x h)) in
        case (below (at p) n (at p c) x)
        (λ h. omega (
          arith,
          taken.done x l (and-not _ _ h f),
          can.totals x l,
          subtotal-all tree can.mass x,
          can.light,
          can_take.room x l (and-not _ _ h f),
        ))
        (λ h. omega (
          arith,
          taken.kept x l (rw h),
          can.totals x l,
          c_mass,
          subtotal-apart tree can.mass x c g (over_c can.cut x g ∙ h),
          can.light,
        ))

    pub can_give : CanShift n r p b j true (d) u
    can_give = record {
      store = record {
        few = can.few;
        walk = record { tree = tree; from_low = can.cut.b_low; stop_low = can.j_low; up = can.over_b };
        size = taken.size ∙ can.size;
      };
      room = λ x l h. give_room x l (and_l (below (at p) n b x) _ h) (met_not (below (at p) n b x) _ h);
    }

    module _ {w : List ℕ} (given : PathShifted n p b j true (d) u w) where
      -- the numbers of the subtree are as they were
      within : (x : ℕ) → x < n → below (at p) n x c ≡ true → at w x ≡ at t x
      within x l e = given.kept x l (rw (not-b can.cut x e)) ∙ taken.kept x l (rw (not_over can.cut x e))

      pub can_complement : CanComplement n r p a (at p c) (d) w
      can_complement = record {
        store = record { few = can.few; walk = can_turn can.cut; size = given.size ∙ taken.size ∙ can.size };
        least = λ x l h.
            let e : below (at p) n x c ≡ true = path_in can.cut x h in
            rw (within x l e, can.totals x l, c_mass) (subtotal-le tree can.mass c x e);
      }

      module _ {z : List ℕ} (reversed : PathComplemented n p a (at p c) (d) w z)
          {q : ℕ → ℕ} (pivot : Pivot n r (at p) a b c q) (f : ℕ → ℕ) (totals : Totals n (at p) f t) where
        c_total : d ≡ subtotal (at p) n f c
        c_total = d-is ∙ totals c can.cut.c_low

        -- out of the subtree, by where x stands to both walks
        new_out : (x : ℕ) → x < n → below (at p) n x c ≡ false → at w x ≡ subtotal q n f x
        new_out x l e =
            case (below (at p) n j x)
            (λ h.
            let both-over : below (at p) n c x ≡ true = trans_b tree j x c can.cut.c_low can.over_c h in
            let on-b : below (at p) n b x ≡ true = trans_b tree j x b can.cut.b_low can.over_b h in
            omega (
              arith,
              given.kept x l (not_both (below (at p) n b x) _ h),
              taken.kept x l (not_both (below (at p) n (at p c) x) _ h),
              totals x l,
              rw (both-over, on-b) at (total_out pivot f x l e),
            ))
            (λ h. case (below (at p) n (at p c) x)
            (λ i.
            let least = subtotal-le tree f x c (over_c can.cut x e ∙ i) in
            case (below (at p) n b x)
            (λ k. omega (
              arith,
              given.done x l (and-not _ _ k h),
              taken.done x l (and-not _ _ i h),
              totals x l,
              c_total,
              rw (over_c can.cut x e ∙ i, k) at (total_out pivot f x l e),
            ))
            (λ k. omega (
              arith,
              given.kept x l (rw k),
              taken.done x l (and-not _ _ i h),
              totals x l,
              c_total,
              rw (over_c can.cut x e ∙ i, k) at (total_out pivot f x l e),
            )))
            (λ i. case (below (at p) n b x)
            (λ k. omega (
              arith,
              given.done x l (and-not _ _ k h),
              taken.kept x l (rw i),
              totals x l,
              c_total,
              rw (over_c can.cut x e ∙ i, k) at (total_out pivot f x l e),
            ))
            (λ k. omega (
              arith,
              given.kept x l (rw k),
              taken.kept x l (rw i),
              totals x l,
              rw (over_c can.cut x e ∙ i, k) at (total_out pivot f x l e),
            ))))

        new_totals : Totals n q f z
        new_totals x l =
            elim (place pivot x l) [
              | end e ↦
                  let la = can.cut.a_low in
                  let k = reversed.done a la (met_path can.cut a (refl_b tree a la) can.cut.a_in) in
                  rw e (omega (arith, k.1.1, k.1.0.begins refl, c_total, total_a pivot f))
              | path g e h i k ↦
                  let y = reversed.done x l (met_path can.cut x g e) in
                  omega (
                    arith,
                    y.1.1,
                    y.1.0.passes (q x) k,
                    within (q x) k.low h,
                    totals (q x) k.low,
                    c_total,
                    total_path pivot f x l e g i,
                  )
              | side g e h i ↦
                  reversed.kept x l (rw g) ∙ within x l e ∙ totals x l ∙ sym (total_side pivot f x l e g)
              | out e g h ↦ reversed.kept x l (unmet_out can.cut x e) ∙ new_out x l e
            ]

      pub moved_totals : {z : List ℕ} → PathComplemented n p a (at p c) (d) w z → TotalsMoved n r p a b c t z
      moved_totals reversed = record {
        size = reversed.size ∙ given.size ∙ taken.size;
        totals = λ q f pivot totals. new_totals reversed pivot f totals;
      }
