use Rattle.arithmetic.specs.Table.{at}
use Rattle.rooted_tree.specs.Chain.{depth}
use Rattle.ratio_test.proofs.Laws.CommonAncestor.{Meeting}
use Rattle.ratio_test.proofs.lowest_common_ancestor.Given as goal

abbrev pub invariant-loop-x : goal.invariant-loop-x
invariant-loop-x l = Meeting l.n (at l.basis.parents) l.s l.t l.x

abbrev pub decreases-loop-x : goal.decreases-loop-x
decreases-loop-x l = depth (at l.basis.parents) 0 l.n l.x
