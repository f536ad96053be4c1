use Rattle.std.proofs.Common.{arith}
use Rattle.arithmetic.proofs.Laws.Mask.{mask_bits}
use Rattle.plan_layers.proofs.Laws.Layering.{layering_more, layering_end}
use Rattle.plan_layers.proofs.take_layers.Goals as goal

pub take_layer-requires : goal.take_layer-requires
take_layer-requires c = (
  mask_bits _ _ _ (c.layers-vertices.ensures _ (omega (arith, c.loop-d-test.true, c.requires.2.small))),
  c.requires.1,
  c.loop-d.invariant.consistent,
)

pub loop-d-preserved : goal.loop-d-preserved
loop-d-preserved c =
    layering_more _ _ _ _ c.loop-d.invariant (omega (arith, c.loop-d-test.true))
    (c.layers-vertices.ensures _ (omega (arith, c.loop-d-test.true, c.requires.2.small))) c.take_layer.ensures

pub returns : goal.returns
returns c = layering_end _ _ _ _ c.loop-d.invariant (omega (arith, c.loop-d-test.false))
