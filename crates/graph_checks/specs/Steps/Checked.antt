-- Checks 1 to 5, and the tree that they leave.
use Rattle.std.specs.Prelude.{ℕ, ◌≡◌, List}
use Rattle.arithmetic.specs.Refusal.{Check, refusal}
use Rattle.graph.specs.Graph.{Graph}
use Rattle.graph.specs.Steps.EdgeTree.{EdgeTree}

-- r is the number of a list of checks that ends with 5; if it is 0, the tables hold a spanning tree with root 0
pub record Checked (g : Graph) (cs : List Check) (r : ℕ) (p s : List ℕ) : Type 0 where
  pub number : r ≡ refusal cs
  pub tree : r ≡ 0 → EdgeTree g 0 p s
