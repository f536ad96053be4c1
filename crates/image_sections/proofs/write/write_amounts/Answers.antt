use mathlib.Core.Path.{refl}
use native.Mathlib.Omega.{arith}
use Rattle.little_endian.proofs.Laws.Byte.{section_none, section_more, section-end}
use Rattle.image_sections.proofs.write.write_amounts.Goals as goal

pub loop-i-init : goal.loop-i-init
loop-i-init c = section_none _ _

pub loop-i-preserved : goal.loop-i-preserved
loop-i-preserved c =
    section_more _ _ c.loop-i.invariant c.loop-i-test.true (omega arith) (omega arith) refl c.put.ensures

pub shape_of-out : goal.shape_of-out
shape_of-out c = c.loop-i.invariant.long

pub returns : goal.returns
returns c = section-end _ _ c.loop-i.invariant c.loop-i-test.false
