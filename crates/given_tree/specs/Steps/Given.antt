-- Checks 1 to 10: what they accept.
use Rattle.std.specs.Prelude.{ℕ, ◌≡◌, Bool, List}
use Rattle.arithmetic.specs.Table.{at}
use Rattle.graph.specs.Graph.{Graph}
use Rattle.graph.specs.Steps.EdgeTree.{EdgeTree}
use Rattle.tree_checks.specs.Steps.ParentEdges.{Lengths}
use Rattle.given_tree.specs.Given.{Given, given_refusal}

-- k is the number of the checks; if it is 0, each vertex but the root has the length of the edge to its parent, and two tables hold a
-- spanning tree with root 0
pub record GivenChecked (g : Graph) (w : Given) (answers : Bool) (k : ℕ) (above above' first edge : List ℕ) : Type 0 where
  pub number : k ≡ given_refusal g w answers
  pub lengths : k ≡ 0 → Lengths g w.root (at w.parents) above above'
  pub tree : k ≡ 0 → EdgeTree g 0 first edge
