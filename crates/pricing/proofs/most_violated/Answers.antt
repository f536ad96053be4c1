use Rattle.std.proofs.Common.{arith}
use Rattle.pricing.proofs.Laws.Entering.{edges_few, edge-fits, largest_none, largest_take, largest_keep, largest_end}
use Rattle.pricing.proofs.most_violated.Goals as goal
use Rattle.pricing.proofs.most_violated.Goals.{then-most-here, else-most-here}

pub block_end-end-requires : goal.block_end-end-requires
block_end-end-requires c = omega (arith, edges_few c.requires.0)

pub loop-e-init : goal.loop-e-init
loop-e-init c = largest_none _

pub scaled_violation-here-requires : goal.scaled_violation-here-requires
scaled_violation-here-requires c = edge-fits c.requires.0 (omega arith)

pub loop-e-preserved : goal.loop-e-preserved
loop-e-preserved c =
    let inv = c.loop-e.invariant in
    let x = c.scaled_violation-here.ensures in
    elim c.if-most-here.branch [
      | then-most-here w ↦ rw (w.found-is, w.most-is) (largest_take inv x (omega arith) w.if-most-here.true)
      | else-most-here w ↦ rw (w.found-is, w.most-is) (largest_keep inv x w.if-most-here.false)
    ]

pub returns : goal.returns
returns c = largest_end _ _ c.requires.1 (omega arith) c.loop-e.invariant
