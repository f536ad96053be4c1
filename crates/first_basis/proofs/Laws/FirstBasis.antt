-- The first basis: the tables of a spanning tree, for the perturbed masses.
use Prim.Native.Nat.{ℕ, ◌+◌, ◌^◌, ◌≤◌, ◌<◌}
use mathlib.Core.Path.{◌≡◌, refl, sym, ◌∙◌}
use mathlib.Core.List.{List}
use native.Mathlib.Omega.{arith}
use lib.ListN.{length, set, length-set, replicate, length-replicate}
use lib.Seq.{get_or-set_same, get_or-set_other}
use mathlib.Core.Bool.{Bool, true, false, cond}
use native.Mathlib.Nat.{mul-le-mul_right}
use lib.Dec.{eqb}
use Rattle.arithmetic.specs.Sum.{sum}
use Rattle.arithmetic.specs.Table.{at}
use Rattle.arithmetic.specs.Steps.Fill.{Filled}
use Rattle.arithmetic.proofs.Laws.Bools.{case≡}
use Rattle.arithmetic.proofs.Laws.Sum.{sum_ge, sum-le-mul}
use Rattle.rooted_tree.specs.Steps.Rooted.{Rooted}
use Rattle.rooted_tree.specs.Steps.Subtotal.{subtotal}
use Rattle.graph.specs.Graph.{Graph, edge_length}
use Rattle.graph.proofs.Laws.Accepted.{vertices_in, lists_in}
use Rattle.graph.proofs.Laws.Edge.{edge-length, joined_sym, edge_length_sym, edge_length_most}
use Rattle.tree_pivot.specs.Steps.Basis.{Network, IsBasis, tables, Places}
use Rattle.tree_checks.proofs.Laws.TreeTests.{spanning_rooted}
use Rattle.first_basis.specs.Steps.Perturbed.{supply_of, demand_of, perturbed}
use Rattle.first_basis.specs.Steps.TreePotential.{HasPotential, potential_at}
use Rattle.first_basis.specs.Steps.FirstBasis.{CanMeasure, LengthsAbove, subtree_mask, CanWeigh, CanStart}
use Rattle.first_basis.proofs.Laws.Perturbed.{supply_total, demand_total, unbalanced}
use Rattle.first_basis.proofs.Laws.TreePotential.{balances, grounded}

pub above_none : (lengths edge old : List ℕ) → LengthsAbove lengths edge old old 1
above_none lengths edge old = record { size = refl; done = λ x l d. absurd (d (omega arith)) }

pub above_more : (lengths edge old new : List ℕ) (k : ℕ) → k < length old → LengthsAbove lengths edge old new k
    → LengthsAbove lengths edge old (set new k (at lengths (at edge k))) (k + 1)
above_more lengths edge old new k h w = record {
  size = length-set new k _ ∙ w.size;
  done = λ x l d. case≡ x k
      (λ e. rw (e, get_or-set_same new k (at lengths (at edge k)) 0 (omega (arith, w.size))))
      (λ ne. get_or-set_other new k x _ 0 ne ∙ w.done x (omega arith) d);
}

pub above_end : (lengths edge old new : List ℕ) (k n : ℕ) → n ≤ k → LengthsAbove lengths edge old new k → LengthsAbove lengths edge old new n
above_end lengths edge old new k n h w = record { size = w.size; done = λ x l d. w.done x (omega arith) d }

-- the perturbed masses weigh little
pub perturbed_fits : {n first rest : ℕ} (masses : List ℕ) {old new : List ℕ} → Filled n (perturbed first rest (at masses)) old new
    → n ≤ 64 → first ≤ 64 → rest ≤ 64 → sum n (at masses) ≤ 2 ^ 24 → sum n (at new) < 2 ^ 64
perturbed_fits {n} {first} {rest} masses {old} {new} w few f r light =
    omega (
      arith,
      sum-le-mul n (2 ^ 31) (at new) (λ y l. omega (arith, w.each y l, sum_ge n y (at masses) l, grains (eqb y 0))),
      mul-le-mul_right (2 ^ 31) few,
    )
  where
    grains : (b : Bool) → cond b first rest ≤ 64
    grains true = f
    grains false = r

-- the tables before they are filled
pub blank : (parents : List ℕ) → length parents ≡ 64
    → Places (tables parents (replicate 64 0) (replicate 64 0) (replicate 64 0) (replicate 64 0) (replicate 64 0))
blank parents h =
    let z = length-replicate {A = ℕ} 64 0 in
    record { parents = h; above = z; supply = z; demand = z; masks = z; potential = z }

module _ {g : Graph} {mu nu parents edge : List ℕ} (can : CanStart g mu nu parents edge) where
  pub vertices : (0 < g.n) × (g.n ≤ 64)
  vertices = vertices_in g.n can.accepted.vertices

  pub rooted : Rooted g.n 0 (at parents)
  rooted = spanning_rooted g 0 (at parents) can.accepted.edges can.tree.tree

  pub network_of : Network g (supply_of (at mu)) (demand_of g.n (at nu))
  network_of = record {
    few = vertices.1;
    symmetric = edge_length_sym g;
    short = edge_length_most g can.accepted.edges can.accepted.lengths;
    joined_back = λ x y h. joined_sym g y x ∙ h;
    light = omega (arith, supply_total g.n vertices.0 (at mu), vertices, can.light);
    unbalanced = λ p t x l d. unbalanced t vertices.1 x l d (at mu) (at nu);
  }

  module _ {above supply demand masks potential : List ℕ} (places : Places (tables parents above supply demand masks potential)) where
    pub can_measure : CanMeasure g.n g.lengths edge above
    can_measure = record {
      some = vertices.0;
      few = vertices.1;
      out_size = places.above;
      number = λ x l d. omega (arith, can.tree.number x l d, lists_in g can.accepted.lists);
    }

    pub can_weigh : CanWeigh g.n parents mu nu supply demand masks
    can_weigh = record {
      few = vertices.1;
      parents_size = places.parents;
      mu_size = omega (arith, can.mu_size);
      nu_size = omega (arith, can.nu_size);
      supply_size = places.supply;
      demand_size = places.demand;
      masks_size = places.masks;
      tree = rooted;
      mu_light = can.light;
      nu_light = omega (arith, can.light, can.same);
    }

    module _ {above' : List ℕ} (measured : LengthsAbove g.lengths edge above above' g.n) where
      above_is : (x : ℕ) → x < g.n → (x ≡ 0 → ⊥) → at above' x ≡ edge_length g x (at parents x)
      above_is x l d =
          measured.done x l d
          ∙ sym (edge-length g can.accepted.edges x (at parents x) (at edge x) (can.tree.number x l d) (can.tree.ends x l d))

      pub has_potential : (supply' demand' : List ℕ) → HasPotential g.n parents above' supply' demand'
      has_potential supply' demand' = record {
        few = vertices.1;
        tree = rooted;
        short = λ x l ne. omega (arith, above_is x l ne, network_of.short x (at parents x));
      }

      module _ {supply' demand' masks' potential' : List ℕ}
          (sums : Filled g.n (subtotal (at parents) g.n (supply_of (at mu))) supply supply'
          × (Filled g.n (subtotal (at parents) g.n (demand_of g.n (at nu))) demand demand'
          × Filled g.n (subtree_mask g.n (at parents)) masks masks'))
          (raised : Filled g.n (potential_at g.n parents above' supply' demand') potential potential') where
        pub first-basis : IsBasis g (supply_of (at mu)) (demand_of g.n (at nu)) (tables parents above' supply' demand' masks' potential')
        first-basis = record {
          network = network_of;
          places = record {
            parents = places.parents;
            above = measured.size ∙ places.above;
            supply = sums.0.size ∙ places.supply;
            demand = sums.1.0.size ∙ places.demand;
            masks = sums.1.1.size ∙ places.masks;
            potential = raised.size ∙ places.potential;
          };
          tree = rooted;
          edge = can.tree.tree.edge;
          above_is = above_is;
          supply_is = sums.0.each;
          demand_is = sums.1.0.each;
          masks_are = sums.1.1.each;
          balances =
              balances (has_potential supply' demand') raised
              (omega (arith, supply_total g.n vertices.0 (at mu), demand_total g.n vertices.0 (at nu), can.same))
              (network_of.unbalanced (at parents) rooted) above_is sums.0.each sums.1.0.each;
          grounded = grounded (has_potential supply' demand') raised;
        }
