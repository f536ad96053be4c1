-- The certificate: a spanning tree with root 0 and a potential within every edge's length that weighs the masses' difference to the tree's
-- cost make, with the tree's plan, a best answer.
use Rattle.std.specs.Prelude.{ℕ, ◌+◌, ◌*◌, ◌≤◌, ◌<◌, ◌≡◌}
use Rattle.arithmetic.specs.Sum.{sum}
use Rattle.arithmetic.specs.Table.{at}
use Rattle.arithmetic.specs.Steps.Product.{gap}
use Rattle.graph.specs.Graph.{Graph, edges}
use Rattle.graph.specs.SpanningTree.{SpanningTree}
use Rattle.tree_figures.specs.Figures.{tree_cost}

-- the certificate, with the potential in naturals
pub record Certificate (g : Graph) (mu nu p U : ℕ → ℕ) : Type 0 where
  pub spanning : SpanningTree g 0 p
  pub within : (e : ℕ) → e < edges g → gap (U (at g.lower e)) (U (at g.upper e)) ≤ at g.lengths e
  pub weighs : sum g.n (λ y. U y * mu y) ≡ sum g.n (λ y. U y * nu y) + tree_cost g 0 p mu nu
