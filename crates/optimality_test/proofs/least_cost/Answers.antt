use native.Mathlib.Omega.{arith}
use Rattle.optimal_transport.proofs.Laws.BestTree.{can_start}
use Rattle.optimality_test.proofs.Laws.OptimalityTest.{found_can, found-least}
use Rattle.optimality_test.proofs.least_cost.Goals as goal

pub best_tree-found-requires : goal.best_tree-found-requires
best_tree-found-requires c =
    can_start c.requires.0 (search) (search) c.requires.1.0 (omega arith) (omega arith)

pub cost_of-requires : goal.cost_of-requires
cost_of-requires c =
    found_can c.requires.0 c.best_tree-found.ensures (search) (search)

pub returns : goal.returns
returns c =
    found-least c.requires.0 c.best_tree-found.ensures c.cost_of.ensures
