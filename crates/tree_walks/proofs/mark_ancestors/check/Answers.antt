use native.Mathlib.Omega.{arith}
use Rattle.arithmetic.proofs.Laws.Refusal.{test_held}
use Rattle.graph.proofs.Laws.Accepted.{vertices_in}
use Rattle.tree_checks.proofs.Laws.TreeTests.{parents_say}
use Rattle.tree_walks.proofs.mark_ancestors.check.Goals as goal

pub chains_reach-requires-clause-n_bound : goal.chains_reach-requires-clause-n_bound
chains_reach-requires-clause-n_bound c = omega (arith, vertices_in c.args.n (search test_held))

pub chains_reach-requires-clause-tree : goal.chains_reach-requires-clause-tree
chains_reach-requires-clause-tree c = parents_say _ _ _ (search test_held)
