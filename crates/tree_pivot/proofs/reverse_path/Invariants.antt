use Prim.Native.Nat.{◌<◌}
use Rattle.arithmetic.specs.Table.{at}
use Rattle.rooted_tree.specs.Chain.{depth}
use Rattle.tree_pivot.proofs.Laws.PathWalk.{OnPath}
use Rattle.tree_pivot.specs.Steps.PathWalk.{Handed}
use Rattle.tree_pivot.specs.Steps.PathReversal.{PathAdvanced}
use Rattle.tree_pivot.proofs.Laws.PathReversal.{ParentsTurned}
use Rattle.tree_pivot.proofs.reverse_path.Given as goal

abbrev pub invariant-loop-y : goal.invariant-loop-y
invariant-loop-y l = OnPath l.n (at l.initial.parents) l.initial.y l.stop l.y
    × ((ParentsTurned l.n l.initial.y l.y l.b l.initial.parents l.parents × ((l.before < l.n) × Handed l.n (at l.initial.parents) l.initial.y (λ z. z) l.b l.y l.before))
    × (PathAdvanced l.n l.initial.parents l.initial.y l.y l.initial.length l.initial.above l.above × Handed l.n (at l.initial.parents) l.initial.y (at l.initial.above) l.initial.length l.y l.length))

abbrev pub decreases-loop-y : goal.decreases-loop-y
decreases-loop-y l = depth (at l.initial.parents) l.root l.n l.y
