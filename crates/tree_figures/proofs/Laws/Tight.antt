-- The potential of a tree, edge by edge: tight where something flows, flat where nothing does. So it weighs the tree's cost.
use Prim.Native.Nat.{ℕ, zero, suc, ◌+◌, ◌*◌, ◌-◌, ◌<◌}
use mathlib.Core.Path.{◌≡◌, refl, sym, ap, ◌∙◌}
use mathlib.Core.Bool.{Bool, false}
use native.Mathlib.Omega.{arith}
use lib.Dec.{ltb}
use lib.IntN.{ℤ, pos, sub_ℕ, ◌*ℤ◌}
use borrow.Author.Tests.{lt-ltb, le-ltb}
use Rattle.arithmetic.specs.Sum.{pick, sum}
use Rattle.arithmetic.specs.Integer.{sum_ℤ}
use Rattle.arithmetic.specs.Steps.Product.{Tight}
use Rattle.arithmetic.proofs.Laws.Bools.{case<}
use Rattle.arithmetic.proofs.Laws.Integer.{sum_ℤ_ext, sub_cong, sub-zero, offset_cancels}
use Rattle.rooted_tree.specs.Steps.Rooted.{Rooted}
use Rattle.rooted_tree.specs.Steps.Subtotal.{subtotal}
use Rattle.rooted_tree.specs.Steps.Potential.{lengths_where}
use Rattle.rooted_tree.proofs.Laws.Climb.{climbed-step}
use Rattle.rooted_tree.proofs.Laws.Flow.{tree_tight}
use Rattle.rooted_tree.proofs.Laws.Potential.{lengths_le, tree_potential, potential_up, potential_down}
use Rattle.graph.specs.Graph.{Graph}
use Rattle.tree_figures.specs.Figures.{difference, imbalance, to_parent, potential, tree_cost}
use Rattle.tree_figures.specs.Steps.Tables.{rises, falls}
use Rattle.tree_figures.proofs.Laws.Figure.{imbalance-sub, potential-sub, tree_cost_flow}

rises-pos : (k : ℕ) → rises (pos k) ≡ ltb 0 k
rises-pos zero = sym (le-ltb 0 0 (omega arith))
rises-pos (suc k) = sym (lt-ltb 0 (suc k) (omega arith))

rises-sub : (a b : ℕ) → rises (sub_ℕ a b) ≡ ltb b a
rises-sub a b =
    case< b a
    (λ l. rw (le-ltb a b (omega arith), lt-ltb b a l) (rises-pos (a - b) ∙ lt-ltb 0 (a - b) (omega arith)))
    (λ l. case< a b
    (λ k. rw (lt-ltb a b k, le-ltb b a l))
    (λ k. rw (le-ltb a b k, le-ltb b a l) (rises-pos (a - b) ∙ le-ltb 0 (a - b) (omega arith))))

falls-sub : (a b : ℕ) → falls (sub_ℕ a b) ≡ ltb a b
falls-sub a b = case< a b (λ l. rw (lt-ltb a b l)) (λ l. rw (le-ltb a b l))

module _ (g : Graph) {r : ℕ} {p : ℕ → ℕ} (t : Rooted g.n r p) (mu nu : ℕ → ℕ) where
  supply : ℕ → ℕ
  supply = subtotal p g.n mu

  demand : ℕ → ℕ
  demand = subtotal p g.n nu

  up : ℕ → Bool
  up x = rises (imbalance g.n p mu nu x)

  down : ℕ → Bool
  down x = falls (imbalance g.n p mu nu x)

  up_is : (x : ℕ) → up x ≡ ltb (demand x) (supply x)
  unfolding up supply demand
  up_is x = ap rises (imbalance-sub g.n p mu nu x) ∙ rises-sub (subtotal p g.n mu x) (subtotal p g.n nu x)

  down_is : (x : ℕ) → down x ≡ ltb (supply x) (demand x)
  unfolding down supply demand
  down_is x = ap falls (imbalance-sub g.n p mu nu x) ∙ falls-sub (subtotal p g.n mu x) (subtotal p g.n nu x)

  -- the sum of all lengths: as high above 0 the potential is nowhere below 0
  pub offset : ℕ
  offset = sum g.n (to_parent g p)

  pub raised : ℕ → ℕ
  raised = tree_potential g.n r p (to_parent g p) up down offset

  pub potential_raised : (y : ℕ) → potential g r p mu nu y ≡ sub_ℕ (raised y) offset
  unfolding raised offset tree_potential up down
  potential_raised y =
      let u = lengths_where g.n r p (to_parent g p) up y in
      let d = lengths_where g.n r p (to_parent g p) down y in
      potential-sub g r p mu nu y
      ∙ sub_cong u d (offset + u - d) offset (omega (arith, lengths_le g.n r p (to_parent g p) down y))

  -- "such an edge is flat"
  pub potential_flat : (x : ℕ) → x < g.n → (x ≡ r → ⊥) → imbalance g.n p mu nu x ≡ pos 0 → potential g r p mu nu x ≡ potential g r p mu nu (p x)
  potential_flat x h d e = rw (potential-sub g r p mu nu x, potential-sub g r p mu nu (p x), same rises refl, same falls refl)
    where
      same : (test : ℤ → Bool) → test (pos 0) ≡ false
          → lengths_where g.n r p (to_parent g p) (λ y. test (imbalance g.n p mu nu y)) x
          ≡ lengths_where g.n r p (to_parent g p) (λ y. test (imbalance g.n p mu nu y)) (p x)
      same test f =
          let none : pick (test (imbalance g.n p mu nu x)) (to_parent g p x) ≡ 0 = rw (e, f) in
          omega (arith, climbed-step t (λ y. pick (test (imbalance g.n p mu nu y)) (to_parent g p y)) x h d)

  pub potential_tight : (x : ℕ) → x < g.n → (x ≡ r → ⊥) → Tight (raised x) (raised (p x)) (to_parent g p x) (subtotal p g.n mu x) (subtotal p g.n nu x)
  unfolding raised offset supply demand
  potential_tight x h d = (
    λ k.
        potential_up t (to_parent g p) up down (sum g.n (to_parent g p)) x h d (lengths_le g.n r p (to_parent g p) down)
        (up_is x ∙ lt-ltb (demand x) (supply x) k) (down_is x ∙ le-ltb (supply x) (demand x) (omega arith)),
    λ k.
        potential_down t (to_parent g p) up down (sum g.n (to_parent g p)) x h d (lengths_le g.n r p (to_parent g p) down)
        (up_is x ∙ le-ltb (demand x) (supply x) (omega arith)) (down_is x ∙ lt-ltb (supply x) (demand x) k),
  )

  -- whatever it does where nothing flows: it weighs the paintings' difference to the tree's cost
  pub potential_weighs : sum g.n mu ≡ sum g.n nu
      → sum_ℤ g.n (λ y. potential g r p mu nu y *ℤ difference mu nu y) ≡ pos (tree_cost g r p mu nu)
  potential_weighs same =
      sum_ℤ_ext g.n _ _ (λ y _. ap (λ (u : ℤ). u *ℤ sub_ℕ (mu y) (nu y)) (potential_raised y))
      ∙ offset_cancels g.n offset raised mu nu same
      ∙ sub_cong (sum g.n (λ y. raised y * mu y)) (sum g.n (λ y. raised y * nu y)) (tree_cost g r p mu nu) 0
      (omega (arith, tree_tight t raised (to_parent g p) mu nu same potential_tight, tree_cost_flow g r p mu nu))
      ∙ sub-zero (tree_cost g r p mu nu)
