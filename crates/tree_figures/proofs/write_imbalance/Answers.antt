use native.Mathlib.Omega.{arith}
use mathlib.Core.Path.{◌∙◌}
use mir.Syntax.{w32}
use mir.ValLaws.{to_z-of_z}
use Rattle.arithmetic.proofs.Laws.Fill.{filling_none, filling_more, filling_end}
use Rattle.tree_figures.proofs.write_imbalance.Goals as goal

pub loop-x-init : goal.loop-x-init
loop-x-init c = filling_none _ _ (omega arith)

pub loop-x-preserved : goal.loop-x-preserved
loop-x-preserved c =
    filling_more c.loop-x.invariant (omega arith)
    (to_z-of_z w32 _ (record { sfits = c.difference.type_inv }) ∙ c.difference.ensures)

pub returns : goal.returns
returns c = filling_end c.loop-x.invariant c.loop-x-test.false
