use Rattle.arithmetic.specs.Table.{at}
use Rattle.rooted_tree.specs.Chain.{depth}
use Rattle.tree_pivot.proofs.Laws.PathWalk.{OnPath}
use Rattle.ratio_test.specs.Steps.Leaving.{PathLeast}
use Rattle.ratio_test.proofs.least_flow.Given as goal

abbrev pub invariant-loop-x : goal.invariant-loop-x
invariant-loop-x l = OnPath l.n (at l.parents) l.from l.to l.x
    × PathLeast l.n (at l.parents) (at l.more) (at l.less) l.from l.x l.least

abbrev pub decreases-loop-x : goal.decreases-loop-x
decreases-loop-x l = depth (at l.parents) 0 l.n l.x
