use Rattle.arithmetic.specs.Table.{at}
use Rattle.rooted_tree.specs.Chain.{depth}
use Rattle.tree_pivot.proofs.Laws.PathWalk.{OnPath}
use Rattle.tree_pivot.proofs.Laws.PivotTables.{Complementing}
use Rattle.tree_pivot.proofs.Subtrees.complement_path.Given as goal

abbrev pub invariant-loop-y : goal.invariant-loop-y
invariant-loop-y l = OnPath l.n (at l.parents) l.a l.stop l.y
    × (Complementing l.n l.parents l.a l.y l.total.supply l.initial.self.supply l.self.supply l.before.supply
    × (Complementing l.n l.parents l.a l.y l.total.demand l.initial.self.demand l.self.demand l.before.demand
    × Complementing l.n l.parents l.a l.y l.total.mask l.initial.self.masks l.self.masks l.before.mask))

abbrev pub decreases-loop-y : goal.decreases-loop-y
decreases-loop-y l = depth (at l.parents) l.root l.n l.y
