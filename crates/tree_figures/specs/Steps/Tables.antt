-- The figures of a tree from tables: n vertices, the root r, a length l above each vertex, the word of those below it, the masses a and b of
-- mu and nu there, and its imbalance z.
use Rattle.std.specs.Prelude.{ℕ, zero, suc, ◌*◌, ◌^◌, ◌<◌, ◌≡◌, Bool, true, false, List, ℤ, pos, negsuc, get_or}
use Rattle.std.proofs.Math.IntN.{sub_ℕ}
use Rattle.std.specs.Int.Signed.{mag}
use Rattle.arithmetic.specs.Sum.{sum, pick}
use Rattle.arithmetic.specs.Steps.Product.{gap}
use Rattle.rooted_tree.specs.Steps.Subtotal.{inner}
use Rattle.subtree_sums.specs.Steps.Sums.{holder_sum}
use Rattle.graph.specs.Graph.{Graph}
use Rattle.tree_figures.specs.Figures.{to_parent}

-- the lengths above the vertices other than the root fit
abbrev pub Short : (n r : ℕ) (l : ℕ → ℕ) → Type 0
Short n r l = (x : ℕ) → x < n → (x ≡ r → ⊥) → l x < 2 ^ 16

-- and are those of the graph
abbrev pub LengthsTo : Graph → (r : ℕ) (p l : ℕ → ℕ) → Type 0
LengthsTo g r p l = (x : ℕ) → x < g.n → (x ≡ r → ⊥) → l x ≡ to_parent g p x

-- the imbalances in a table fit
abbrev pub Moderate : ℕ → List ℤ → Type 0
Moderate n l = (x : ℕ) → x < n → mag (get_or l x (pos 0)) < 2 ^ 31

-- the tree cost
abbrev pub cost_from : (n r : ℕ) (l a b : ℕ → ℕ) → ℕ
cost_from n r l a b = sum n (λ x. inner r x (l x * gap (a x) (b x)))

-- the sign of an imbalance is +1,
abbrev pub rises : ℤ → Bool
rises (pos zero) = false
rises (pos (suc k)) = true
rises (negsuc k) = false

-- and -1
abbrev pub falls : ℤ → Bool
falls (pos k) = false
falls (negsuc k) = true

-- the length above x where the test holds, 0 elsewhere and at the root
abbrev pub slope : (r : ℕ) (l : ℕ → ℕ) (test : ℕ → Bool) → ℕ → ℕ
slope r l test x = inner r x (pick (test x) (l x))

-- the potential of y by the words of the vertices: what it rises by to those that hold y, less what it falls by
abbrev pub potential_from : (n r : ℕ) (words l : ℕ → ℕ) (z : ℕ → ℤ) → ℕ → ℤ
potential_from n r words l z y =
    sub_ℕ (holder_sum n words (slope r l (λ x. rises (z x))) y) (holder_sum n words (slope r l (λ x. falls (z x))) y)
