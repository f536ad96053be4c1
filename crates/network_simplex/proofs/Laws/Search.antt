-- The search: the first basis is improved by pivots until the potential violates no edge; what is left is a certificate.
use Prim.Native.Nat.{ℕ, ◌*◌, ◌^◌, ◌<◌}
use mathlib.Core.Path.{◌≡◌, sym, ap, ◌∙◌}
use mathlib.Core.List.{List}
use native.Mathlib.Omega.{arith}
use borrow.Author.Tests.{ne_eqb}
use Rattle.arithmetic.specs.Sum.{sum}
use Rattle.arithmetic.specs.Table.{at}
use Rattle.arithmetic.specs.Steps.Table.{EachBelow}
use Rattle.arithmetic.specs.Steps.Product.{gap}
use Rattle.arithmetic.proofs.Laws.Bools.{case≡}
use Rattle.arithmetic.proofs.Laws.Sum.{sum_ext}
use Rattle.rooted_tree.specs.Steps.Subtotal.{inner}
use Rattle.rooted_tree.specs.Steps.Flow.{flow_cost}
use Rattle.rooted_tree.proofs.Laws.Rooted.{depth-lt}
use Rattle.rooted_tree.proofs.Laws.Flow.{tree_strong, agrees_near}
use Rattle.graph.specs.Graph.{Graph, edge_length}
use Rattle.graph.specs.SpanningTree.{SpanningTree}
use Rattle.tree_pivot.specs.Steps.Basis.{IsBasis, Tables}
use Rattle.tree_pivot.specs.Steps.PivotBasis.{basis_flow_cost}
use Rattle.tree_pivot.proofs.Laws.PivotPotential.{near_root}
use Rattle.spanning_tree.specs.TreeValue.{parents_held}
use Rattle.spanning_tree.proofs.Laws.TreeValue.{held_at}
use Rattle.duality.specs.Steps.Best.{Certificate}
use Rattle.duality.proofs.Laws.Agree.{certificate_same}
use Rattle.duality.proofs.Laws.Best.{certificate_of_flow}
use Rattle.first_basis.specs.Steps.Perturbed.{supply_of, demand_of}
use Rattle.first_basis.specs.Steps.FirstBasis.{CanStart}
use Rattle.first_basis.proofs.Laws.Perturbed.{true-agrees}
use Rattle.first_basis.proofs.Laws.FirstBasis.{vertices}
use Rattle.network_simplex.specs.Steps.Search.{CanSearch, Improved, Optimal, BestTree}

-- a potential is no further from the offset than 63 edges are long
pub potential_small : {g : Graph} {m v : ℕ → ℕ} {t : Tables} → IsBasis g m v t → EachBelow g.n (at t.potential) (2 ^ 24)
potential_small {t = t} basis x l =
    omega (
      arith,
      near_root basis.tree (at t.potential)
          (λ y k d.
          let near = agrees_near _ _ _ _ _ (basis.balances.agrees y k d) in
          let s = basis.network.short y (at t.parents y) in
          (omega arith, omega arith))
          x l,
      depth-lt basis.tree x l,
      basis.grounded,
      basis.network.few,
    )

-- ---- the loop

-- whatever masses the tables are a basis of, they still are one
abbrev pub Kept : Graph → (t t' : Tables) → Type 0
Kept g t t' = (m v : ℕ → ℕ) → IsBasis g m v t → IsBasis g m v t'

-- the cost, from the tables
abbrev pub basis_cost : ℕ → (above supply demand : List ℕ) → ℕ
basis_cost n above supply demand = sum n (λ x. inner 0 x (at above x * gap (at supply x) (at demand x)))

basis-cost : {g : Graph} {m v : ℕ → ℕ} {t : Tables} → IsBasis g m v t → basis_cost g.n t.above t.supply t.demand ≡ basis_flow_cost g m v t
unfolding flow_cost
basis-cost {g} basis =
    sum_ext g.n _ _ (λ x l. case≡ x 0
    (λ e. rw e)
    (λ d. rw (ne_eqb x 0 d, basis.above_is x l d, basis.supply_is x l, basis.demand_is x l)))

module _ {g : Graph} {t₀ t : Tables} (can : CanSearch g t₀) (kept : Kept g t₀ t) where
  abbrev pub search_state : CanSearch g t
  search_state = record { accepted = can.accepted; m = can.m; v = can.v; basis = kept can.m can.v can.basis }

  module _ {t' : Tables} (better : Improved g t t') where
    pub search_keeps : Kept g t₀ t'
    search_keeps m v b = (better m v (kept m v b)).basis

    pub search_less : basis_cost g.n t'.above t'.supply t'.demand < basis_cost g.n t.above t.supply t.demand
    search_less =
        let basis = search_state.basis in
        let c = better can.m can.v basis in
        omega (arith, basis-cost basis, basis-cost c.basis, c.cheaper)

module _ {g : Graph} {mu nu parents edge : List ℕ} (can : CanStart g mu nu parents edge)
    {t : Tables} (best : Optimal g (supply_of (at mu)) (demand_of g.n (at nu)) t) where
  spanning : SpanningTree g 0 (at t.parents)
  spanning = record {
    root = best.basis.tree.root;
    stay = best.basis.tree.stay;
    edge = best.basis.edge;
    chain = λ x l. (g.n, best.basis.tree.up x l);
  }

  certificate_of : Certificate g (at mu) (at nu) (at t.parents) (at t.potential)
  certificate_of =
      certificate_of_flow g (at mu) (at nu) (at t.parents) (at t.potential) spanning (λ e l. omega (arith, best.within e l))
      (tree_strong best.basis.tree (at t.potential) (λ x. edge_length g x (at t.parents x)) (at mu) (at nu) can.same
      (λ x l d. true-agrees best.basis.tree (vertices can).1 x l d (at mu) (at nu) _ _ _ (best.basis.balances.agrees x l d)))

  -- what is handed out is the tree by value
  pub best-tree : {n r : ℕ} {held : List ℕ} → (n ≡ g.n) × ((r ≡ 0) × (held ≡ parents_held g.n t.parents))
      → BestTree g (at mu) (at nu) n r held t.above t.potential
  best-tree {n} {r} {held} e =
      let same : (x : ℕ) → x < g.n → at t.parents x ≡ at held x
      = λ x l. rw e.1.1 (sym (held_at g.n t.parents (vertices can).1 x l)) in
      record {
        vertices_are = e.0;
        root_is = e.1.0;
        certificate = certificate_same g same best.basis.tree.into certificate_of;
        above_size = best.basis.places.above;
        above_is = λ x l d. best.basis.above_is x l d ∙ ap (edge_length g x) (same x l);
        potential_size = best.basis.places.potential;
        small = potential_small best.basis;
      }
