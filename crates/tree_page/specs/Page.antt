-- Document 02, W-213: the page of a given tree.
use Rattle.std.specs.Prelude.{ℕ, ◌*◌, ◌≡◌, List, leb, ℤ, length, Result}
use Rattle.arithmetic.specs.Table.{at, result, written}
use Rattle.refusals.specs.declared.Refusal.{Refusal}
use Rattle.refusals.specs.Refusals.{or_zero}
use Rattle.graph.specs.Graph.{Graph}
use Rattle.given_tree.specs.Given.{Given, given_refusal}
use Rattle.tree_figures.specs.Figures.{imbalance, potential}
use Rattle.preorder.specs.Preorder.{page}

-- "The checks are those of weighing; a buffer under 96 × n bytes is 2"
unfoldable pub page_refusal : Graph → Given → List ℕ → ℕ
page_refusal g w buffer = given_refusal g w (leb (96 * g.n) (length buffer))

-- Ξ and the potential of the given tree
abbrev pub imbalance_of : Graph → Given → ℕ → ℤ
imbalance_of g w = imbalance g.n (at w.parents) (at w.mu) (at w.nu)

abbrev pub potential_of : Graph → Given → ℕ → ℤ
potential_of g w = potential g w.root (at w.parents) (at w.mu) (at w.nu)

-- its page
abbrev pub tree_page : Graph → Given → List ℕ
tree_page g w = page g.n w.root (at w.parents) (imbalance_of g w) (potential_of g w)

-- "The lines fill a lent buffer from its start .. and the call returns 96 × n, the bytes filled": the refusal number k, what is returned, and the
-- buffer as it comes back
pub record PageWritten (g : Graph) (w : Given) (buffer : List ℕ) (k filled : ℕ) (buffer' : List ℕ) : Type 0 where
  pub refusal : k ≡ page_refusal g w buffer
  pub length_is : filled ≡ result k (96 * g.n)
  pub bytes_are : buffer' ≡ written k (tree_page g w) buffer

-- "A refusal returns the number, all other results 0": what stands for the bytes filled
abbrev pub filled_of : Result ℕ Refusal → ℕ
filled_of = or_zero (λ (k : ℕ). k)
