use mathlib.Core.Path.{refl}
use native.Mathlib.Omega.{arith}
use Rattle.little_endian.proofs.Laws.Byte.{pieces_none, pieces_more, pieces_end}
use Rattle.image_sections.proofs.Laws.Sections.{length_entry}
use Rattle.image_sections.proofs.write.write_edges.Goals as goal

pub loop-e-init : goal.loop-e-init
loop-e-init c =
    pieces_none 4 _ (length_entry c.args.g.now.a.now c.args.g.now.b.now c.args.g.now.lengths.now)

pub loop-e-preserved : goal.loop-e-preserved
loop-e-preserved c =
    pieces_more 4 _ (length_entry c.args.g.now.a.now c.args.g.now.b.now c.args.g.now.lengths.now) c.loop-e.invariant c.loop-e-test.true (omega arith) refl c.write_edge.ensures

pub shape_of-out : goal.shape_of-out
shape_of-out c = c.loop-e.invariant.long

pub returns : goal.returns
returns c =
    pieces_end 4 _ (length_entry c.args.g.now.a.now c.args.g.now.b.now c.args.g.now.lengths.now) c.loop-e.invariant c.loop-e-test.false
