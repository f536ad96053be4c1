use mathlib.Core.Path.{refl, ◌∙◌}
use native.Mathlib.Omega.{arith}
use lib.ListN.{get_or}
use lib.IntN.{pos}
use Rattle.little_endian.proofs.Laws.Byte.{section_none, section_more, section-end}
use Rattle.little_endian.proofs.Laws.Signed.{read_signed}
use Rattle.host_record.proofs.write_potential.Goals as goal

pub loop-i-init : goal.loop-i-init
loop-i-init c = section_none _ _

pub loop-i-preserved : goal.loop-i-preserved
loop-i-preserved c =
    section_more _ _ c.loop-i.invariant c.loop-i-test.true (omega arith) refl
    (c.bits_of.ensures ∙ read_signed (get_or c.args.potential.now c.loop-i.i (pos 0)) c.bits_of-arg-1.given) c.put.ensures

pub shape_of-out : goal.shape_of-out
shape_of-out c = c.loop-i.invariant.long

pub returns : goal.returns
returns c = section-end _ _ c.loop-i.invariant c.loop-i-test.false
