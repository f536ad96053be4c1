use native.Mathlib.Omega.{arith}
use mathlib.Core.Path.{◌∙◌}
use mir.Syntax.{w32}
use mir.ValLaws.{to_z-of_z}
use Rattle.arithmetic.proofs.Laws.Fill.{filling_none, filling_more, filling_end}
use Rattle.optimal_transport.proofs.write_potential.Goals as goal

pub loop-y-init : goal.loop-y-init
loop-y-init c = filling_none _ _ (omega arith)

pub loop-y-preserved : goal.loop-y-preserved
loop-y-preserved c =
    filling_more c.loop-y.invariant (omega arith)
    (to_z-of_z w32 _ (record { sfits = c.difference.type_inv }) ∙ c.difference.ensures)

pub returns : goal.returns
returns c = filling_end c.loop-y.invariant c.loop-y-test.false
