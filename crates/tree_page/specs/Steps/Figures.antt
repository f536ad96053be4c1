-- The figures of a tree in two tables.
use Rattle.std.specs.Prelude.{ℕ, ◌≡◌, List, ◌++◌, ℤ, drop}
use Rattle.arithmetic.specs.Table.{tab}
use Rattle.graph.specs.Graph.{Graph}
use Rattle.tree_figures.specs.Figures.{imbalance, potential}

pub record FiguresFound (g : Graph) (r : ℕ) (p mu nu : ℕ → ℕ) (imbalances potentials imbalances' potentials' : List ℤ) : Type 0 where
  pub imbalance_is : imbalances' ≡ tab g.n (imbalance g.n p mu nu) ++ drop g.n imbalances
  pub potential_is : potentials' ≡ tab g.n (potential g r p mu nu) ++ drop g.n potentials
