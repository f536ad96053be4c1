use native.Mathlib.Omega.{arith}
use Rattle.optimality_test.proofs.Laws.OptimalityTest.{cost_few}
use Rattle.optimality_test.proofs.cost_of.Goals as goal

pub tree_flow-requires-clause-weighted : goal.tree_flow-requires-clause-weighted
tree_flow-requires-clause-weighted c = c.requires _ (omega arith)

pub tree_flow-requires-clause-room : goal.tree_flow-requires-clause-room
tree_flow-requires-clause-room c = (cost_few c.requires, cost_few c.requires)

pub returns : goal.returns
returns c = c.tree_flow.ensures.cost
