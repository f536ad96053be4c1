use Rattle.arithmetic.proofs.Laws.Refusal.{test_held}
use Rattle.tree_checks.proofs.Laws.TreeTests.{parents_say}
use Rattle.tree_checks.proofs.checks.check_tree.Goals as goal

pub chains_reach-requires-clause-tree : goal.chains_reach-requires-clause-tree
chains_reach-requires-clause-tree c = parents_say _ _ _ (search test_held)
