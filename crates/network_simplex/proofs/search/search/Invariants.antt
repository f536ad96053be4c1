use Rattle.graph.specs.Graph.{graph_of}
use Rattle.tree_pivot.specs.Steps.Basis.{tables_of}
use Rattle.pricing.specs.Steps.Entering.{Entering}
use Rattle.network_simplex.proofs.Laws.Search.{basis_cost, Kept}
use Rattle.network_simplex.proofs.search.search.Given as goal

abbrev pub invariant-loop-entering : goal.invariant-loop-entering
invariant-loop-entering l = Entering (graph_of l.g) l.basis.potential l.entering
    × Kept (graph_of l.g) (tables_of l.initial.basis) (tables_of l.basis)

abbrev pub decreases-loop-entering : goal.decreases-loop-entering
decreases-loop-entering l = basis_cost l.g.n l.basis.above l.basis.subtrees.supply l.basis.subtrees.demand
