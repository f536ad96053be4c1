use Rattle.arithmetic.proofs.Laws.Refusal.{parts, test_held}
use Rattle.tree_checks.proofs.Laws.TreeTests.{parents_say}
use Rattle.spanning_tree.specs.Tree.{valid}
use Rattle.spanning_tree.proofs.Laws.Valid.{few_vertices}
use Rattle.spanning_tree.proofs.tree.Tree.is_valid.Goals as goal

pub chains_reach-requires-clause-tree : goal.chains_reach-requires-clause-tree
chains_reach-requires-clause-tree c = parents_say _ _ _ (search test_held)

pub returns : goal.returns
returns c = unfold valid in search (parts, few_vertices, test_held)
