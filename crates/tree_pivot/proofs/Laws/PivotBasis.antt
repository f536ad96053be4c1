-- The pivot of a basis: the tables of the old tree become those of the new one.
use mathlib.Core.Path.{◌≡◌, refl, sym, ap, ◌∙◌}
use mathlib.Core.Bool.{Bool, true, false, cond}
use mathlib.Core.List.{List}
use Prim.Native.Nat.{ℕ, ◌^◌, ◌≤◌, ◌<◌}
use native.Mathlib.Omega.{arith}
use lib.ListN.{length}
use Rattle.arithmetic.specs.Sum.{sum}
use Rattle.arithmetic.specs.Table.{at}
use Rattle.arithmetic.specs.Mask.{mask}
use Rattle.arithmetic.specs.Steps.Mask.{bit}
use Rattle.arithmetic.proofs.Laws.Bools.{clash, is_false}
use Rattle.arithmetic.proofs.Laws.Mask.{bit_mask, mask_bits}
use Rattle.vertex_set.specs.Steps.Shift.{shifted, CanShiftWord, WordShifted}
use Rattle.vertex_set.proofs.Laws.Shift.{room_less}
use Rattle.rooted_tree.specs.Chain.{below}
use Rattle.rooted_tree.specs.Steps.Rooted.{Rooted}
use Rattle.rooted_tree.proofs.Laws.Rooted.{refl_b, not_root, trans_b, comparable}
use Rattle.graph.specs.Graph.{Graph, joined, edge_length}
use Rattle.tree_pivot.specs.Steps.Pivot.{Cut, Pivot, end, path, side, out}
use Rattle.tree_pivot.specs.Steps.PathReversal.{PathReversed}
use Rattle.tree_pivot.specs.Steps.PivotTables.{Totals, CanMove, TotalsMoved}
use Rattle.tree_pivot.specs.Steps.PivotPotential.{Enters, violation}
use Rattle.tree_pivot.specs.Steps.Basis.{Tables, tables}
use Rattle.tree_pivot.specs.Steps.PivotBasis.{CommonAncestor, CanPivot, CheaperBasis}
use Rattle.tree_pivot.proofs.Laws.Pivot.{place, new_tree}
use Rattle.tree_pivot.proofs.Laws.PathReversal.{met_path, unmet_out}
use Rattle.tree_pivot.proofs.Laws.SubtreeMasks.{powers, powers_light, mask_totals, moved_masks, moved_subtree}
use Rattle.tree_pivot.proofs.Laws.PivotCost.{cut_of}
use Rattle.tree_pivot.proofs.Laws.PivotPotential.{shift_room, new_potential, new_grounded, cost_falls}

-- ---- what each step of the pivot requires
cuts : (rises : Bool) {n r : ℕ} {p m v U : ℕ → ℕ} {a b c long : ℕ} → Rooted n r p → a < n → b < n → Enters rises n p m v U a b c long → Cut n r p a b c
cuts false t la lb h = cut_of t la lb h.leaves.upward
cuts true t la lb h = cut_of t la lb h.leaves.upward

module _ {g : Graph} {m v : ℕ → ℕ} {a b c long : ℕ} {rises : Bool} {t : Tables} (can : CanPivot g m v a b c long rises t) where
  few : g.n ≤ 64
  few = can.basis.network.few

  tree : Rooted g.n 0 (at t.parents)
  tree = can.basis.tree

  pub cut : Cut g.n 0 (at t.parents) a b c
  cut = cuts rises tree can.a_low can.b_low can.enters

  module _ {j : ℕ} (ancestor : CommonAncestor g.n (at t.parents) a b j) where
    can_move : (l : List ℕ) (f : ℕ → ℕ) → length l ≡ 64 → sum g.n f < 2 ^ 64 → Totals g.n (at t.parents) f l
        → CanMove g.n 0 t.parents a b c j l
    can_move l f size light totals = record {
      few = few;
      cut = cut;
      size = size;
      j_low = ancestor.low;
      over_b = ancestor.over_b;
      over_c = comparable tree j c a can.a_low ancestor.over_a cut.a_in
          (is_false _ (λ h. clash (trans_b tree j c b can.b_low ancestor.over_b h) cut.b_out));
      mass = f;
      light = light;
      totals = totals;
    }

    pub can_move_supply : CanMove g.n 0 t.parents a b c j t.supply
    can_move_supply = can_move _ m can.basis.places.supply (omega (arith, can.basis.network.light)) can.basis.supply_is

    pub can_move_demand : CanMove g.n 0 t.parents a b c j t.demand
    can_move_demand =
        can_move _ v can.basis.places.demand (omega (arith, can.basis.network.light, can.basis.balances.same)) can.basis.demand_is

    pub can_move_masks : CanMove g.n 0 t.parents a b c j t.masks
    can_move_masks = can_move _ powers can.basis.places.masks (powers_light g.n few) (mask_totals g.n _ t.masks can.basis.masks_are)

  -- ---- the new basis
  enters : Enters rises g.n (at t.parents) m v (at t.potential) a b c (edge_length g a b)
  enters = rw can.length_is at can.enters

  module _ {parents' above' masks' : List ℕ} (turned : PathReversed g.n t.parents t.above 0 a b c long parents' above')
      (moved : TotalsMoved g.n 0 t.parents a b c t.masks masks') where
    pivot : Pivot g.n 0 (at t.parents) a b c (at parents')
    pivot = turned.pivot

    subtree-mask : at masks' a ≡ mask g.n (λ y. below (at t.parents) g.n y c)
    subtree-mask = moved_subtree moved pivot can.basis.masks_are

    subtree_bit : (x : ℕ) → x < g.n → bit (at masks' a) x ≡ below (at t.parents) g.n x c
    subtree_bit x l = ap (λ (z : ℕ). bit z x) subtree-mask ∙ bit_mask g.n (λ y. below (at t.parents) g.n y c) x l

    pub can_shift_potential : (d : ℕ) → d ≤ violation (at t.potential a) (at t.potential b) long
        → CanShiftWord g.n (at masks' a) rises d t.potential
    can_shift_potential d e = record {
      few = few;
      size = can.basis.places.potential;
      set = mask_bits g.n _ _ subtree-mask;
      room = λ x l h.
          room_less 32 rises d _ (at t.potential x) e (rw can.length_is
          (shift_room pivot can.basis.network.symmetric can.basis.balances can.basis.network.short few can.basis.grounded rises enters x l
          (sym (subtree_bit x l) ∙ h)));
    }

    new_edge : (x : ℕ) → x < g.n → (x ≡ 0 → ⊥) → joined g x (at parents' x) ≡ true
    new_edge x l d =
        elim (place pivot x l) [
          | end e ↦ rw (e, pivot.hung) can.edge
          | path f e k i z ↦
              can.basis.network.joined_back (at parents' x) x
              (rw z.over at (can.basis.edge (at parents' x) z.low (not_root tree c (at parents' x) cut.c_root k)))
          | side f e k i ↦ rw i (can.basis.edge x l d)
          | out e f k ↦ rw k (can.basis.edge x l d)
        ]

    -- what x is handed is the length of the edge to its new parent
    new_above : (x : ℕ) → x < g.n → (x ≡ 0 → ⊥) → at above' x ≡ edge_length g x (at parents' x)
    new_above x l d =
        elim (place pivot x l) [
          | end e ↦
              rw (e, pivot.hung)
              ((turned.lengths.done a can.a_low (met_path cut a (refl_b tree a can.a_low) cut.a_in)).begins refl ∙ can.length_is)
          | path f e k i z ↦
              (turned.lengths.done x l (met_path cut x f e)).passes (at parents' x) z
              ∙ can.basis.above_is (at parents' x) z.low (not_root tree c (at parents' x) cut.c_root k)
              ∙ ap (edge_length g (at parents' x)) z.over ∙ can.basis.network.symmetric (at parents' x) x
          | side f e k i ↦ rw i (turned.lengths.kept x l (rw f) ∙ can.basis.above_is x l d)
          | out e f k ↦ rw k (turned.lengths.kept x l (unmet_out cut x e) ∙ can.basis.above_is x l d)
        ]

    module _ {supply' demand' potential' : List ℕ} (moved-supply : TotalsMoved g.n 0 t.parents a b c t.supply supply')
        (moved-demand : TotalsMoved g.n 0 t.parents a b c t.demand demand')
        {d : ℕ} (d-is : d ≡ violation (at t.potential a) (at t.potential b) long)
        (raised : WordShifted (at masks' a) rises d t.potential potential' g.n) where
      new_value : (x : ℕ) → x < g.n → at potential' x
          ≡ cond (below (at t.parents) g.n x c)
          (shifted rises (violation (at t.potential a) (at t.potential b) (edge_length g a b)) (at t.potential x)) (at t.potential x)
      new_value x l = rw (← (subtree_bit x l), ← can.length_is, ← d-is) (raised.done x l)

      pub cheaper_basis : CheaperBasis g m v t (tables parents' above' supply' demand' masks' potential')
      cheaper_basis =
          let b = can.basis in
          let net = b.network in
          record {
            basis = record {
              network = net;
              places = record {
                parents = turned.size ∙ b.places.parents;
                above = turned.lengths.size ∙ b.places.above;
                supply = moved-supply.size ∙ b.places.supply;
                demand = moved-demand.size ∙ b.places.demand;
                masks = moved.size ∙ b.places.masks;
                potential = raised.size ∙ b.places.potential;
              };
              tree = new_tree pivot;
              edge = new_edge;
              above_is = new_above;
              supply_is = moved-supply.totals (at parents') m pivot b.supply_is;
              demand_is = moved-demand.totals (at parents') v pivot b.demand_is;
              masks_are = moved_masks moved pivot b.masks_are;
              balances =
                  new_potential pivot net.symmetric b.balances net.short few b.grounded rises enters (at potential') new_value
                  (net.unbalanced (at parents') (new_tree pivot));
              grounded = new_grounded pivot net.symmetric b.balances net.short few b.grounded rises enters (at potential') new_value;
            };
            cheaper = cost_falls pivot net.symmetric b.balances rises enters;
          }
