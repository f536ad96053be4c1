use Rattle.std.proofs.Common.{Some, refl, arith}
use Rattle.graph.proofs.Laws.Accepted.{vertices_in}
use Rattle.pricing.proofs.Laws.Entering.{entering, largest_found, largest_second}
use Rattle.pricing.proofs.entering_edge.Goals as goal

pub scale_potential-requires : goal.scale_potential-requires
scale_potential-requires c = ((vertices_in _ c.requires.0.vertices).1, refl, c.requires.2)

pub returns-in-Some : goal.returns-in-Some
returns-in-Some c =
    entering c.requires.0 c.scale_potential.ensures (Some c.in-Some.e) (largest_found 0 _ c.in-Some.ensures)

pub returns-in-None : goal.returns-in-None
returns-in-None c =
    entering c.requires.0 c.scale_potential.ensures _
    (largest_second _ _ (omega (arith, c.div_ceil-blocks.ensures)) c.in-None.ensures _ c.most_violated_from-in-None.ensures)
