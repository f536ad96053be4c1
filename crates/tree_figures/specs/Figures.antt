-- Document 01, "Weighing a given tree": imbalance, sign, potential and tree cost. mu and nu are the paintings, p the parents, r the root.
use Rattle.std.specs.Prelude.{ℕ, zero, suc, ◌*◌, not, ◌&&◌, eqb, ℤ, pos, negsuc, nat_abs, ◌*ℤ◌}
use Rattle.std.proofs.Math.IntN.{sub_ℕ}
use Rattle.arithmetic.specs.Sum.{sum, pick}
use Rattle.arithmetic.specs.Integer.{sum_ℤ, pick_ℤ}
use Rattle.rooted_tree.specs.Chain.{below}
use Rattle.graph.specs.Graph.{Graph, edge_length}

-- "ξ(x) = mu(x) − nu(x)"
abbrev pub difference : (ℕ → ℕ) → (ℕ → ℕ) → ℕ → ℤ
difference mu nu x = sub_ℕ (mu x) (nu x)

-- "The imbalance Ξ(x) is the sum of ξ over the vertices below x"
unfoldable pub imbalance : ℕ → (ℕ → ℕ) → (ℕ → ℕ) → (ℕ → ℕ) → ℕ → ℤ
imbalance n p mu nu x = sum_ℤ n (λ y. pick_ℤ (below p n y x) (difference mu nu y))

-- Sign: +1 where Ξ is more than 0, −1 "where it is less", and, by document 02, W-202, "the sign of 0 is 0"
abbrev pub sign : ℤ → ℤ
sign (pos zero) = pos 0
sign (pos (suc k)) = pos 1
sign (negsuc k) = negsuc 0

-- "the length from x to its parent"
abbrev pub to_parent : Graph → (ℕ → ℕ) → ℕ → ℕ
to_parent g p x = edge_length g x (p x)

-- "The potential u(y) is the sum, over each x other than the root that y is below, of sign(Ξ(x)) × the length from x to its parent"
unfoldable pub potential : Graph → ℕ → (ℕ → ℕ) → (ℕ → ℕ) → (ℕ → ℕ) → ℕ → ℤ
potential g r p mu nu y =
    sum_ℤ g.n (λ x. pick_ℤ (not (eqb x r) && below p g.n y x) (sign (imbalance g.n p mu nu x) *ℤ pos (to_parent g p x)))

-- "Tree cost: the sum over x other than the root of that length × |Ξ(x)|"
unfoldable pub tree_cost : Graph → ℕ → (ℕ → ℕ) → (ℕ → ℕ) → (ℕ → ℕ) → ℕ
tree_cost g r p mu nu = sum g.n (λ x. pick (not (eqb x r)) (to_parent g p x * nat_abs (imbalance g.n p mu nu x)))
