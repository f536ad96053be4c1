use Rattle.arithmetic.specs.Table.{at}
use Rattle.rooted_tree.specs.Chain.{depth}
use Rattle.tree_pivot.proofs.Laws.PathWalk.{OnPath}
use Rattle.tree_pivot.specs.Steps.PivotTables.{PathShifted}
use Rattle.tree_pivot.proofs.Subtrees.shift_path.Given as goal

abbrev pub invariant-loop-y : goal.invariant-loop-y
invariant-loop-y l = OnPath l.n (at l.parents) l.from l.stop l.y
    × (PathShifted l.n l.parents l.from l.y l.rises l.d.supply l.initial.self.supply l.self.supply
    × (PathShifted l.n l.parents l.from l.y l.rises l.d.demand l.initial.self.demand l.self.demand × PathShifted l.n l.parents l.from l.y l.rises l.d.mask l.initial.self.masks l.self.masks))

abbrev pub decreases-loop-y : goal.decreases-loop-y
decreases-loop-y l = depth (at l.parents) l.root l.n l.y
