use Rattle.std.proofs.Common.{◌∙◌, arith, length-set}
use Rattle.pricing.proofs.Laws.Entering.{scaled_more}
use Rattle.pricing.proofs.scale_potential.Goals as goal

pub loop-x-init : goal.loop-x-init
loop-x-init c = (c.requires.1, record { each = λ y l. absurd (omega arith) })

pub scaled-requires : goal.scaled-requires
scaled-requires c = c.requires.2 _ (omega arith)

pub loop-x-preserved : goal.loop-x-preserved
loop-x-preserved c =
    let inv = c.loop-x.invariant in
    (length-set c.loop-x.out _ _ ∙ inv.0, scaled_more (omega arith) inv.1 c.scaled.ensures)
