-- The potential of a tree: the offset at the root, and along each edge a change by its length.
use Rattle.std.specs.Prelude.{◌≡◌, Bool, not, List, ℕ, ◌+◌, ◌-◌, ◌≤◌, ◌<◌, ltb}
use Rattle.arithmetic.specs.Sum.{pick}
use Rattle.arithmetic.specs.Table.{at}
use Rattle.rooted_tree.specs.Steps.Rooted.{Rooted, path_sum}
use Rattle.rooted_tree.specs.Steps.Subtotal.{inner}
use Rattle.tree_pivot.specs.Steps.Basis.{ground_potential}

-- a tree with the lengths of the edges above its vertices
pub record HasPotential (n : ℕ) (parents lengths supply demand : List ℕ) : Type 0 where
  pub few : n ≤ 64
  pub tree : Rooted n 0 (at parents)
  pub short : (x : ℕ) → x < n → (x ≡ 0 → ⊥) → at lengths x ≤ 65535

-- ---- the lengths l up to the root, added where `up` holds and taken away elsewhere
unfoldable pub rise : (n : ℕ) (p l : ℕ → ℕ) (up : ℕ → Bool) → ℕ → ℕ
rise n p l up x = inner 0 x (pick (up x) (l x))

unfoldable pub fall : (n : ℕ) (p l : ℕ → ℕ) (up : ℕ → Bool) → ℕ → ℕ
fall n p l up x = inner 0 x (pick (not (up x)) (l x))

unfoldable pub net_rise : (n : ℕ) (p l : ℕ → ℕ) (up : ℕ → Bool) → ℕ → ℕ
net_rise n p l up y = ground_potential + path_sum p n (rise n p l up) y - path_sum p n (fall n p l up) y

-- ---- the walk from y up to the root, and the table of all. It falls where nothing flows, which the perturbed masses leave nowhere: the document's
-- potential is flat there.
abbrev pub potential_at : ℕ → (parents lengths supply demand : List ℕ) → ℕ → ℕ
potential_at n parents lengths supply demand = net_rise n (at parents) (at lengths) (λ x. ltb (at demand x) (at supply x))
