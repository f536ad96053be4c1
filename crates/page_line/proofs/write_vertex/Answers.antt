use native.Mathlib.Omega.{arith}
use Rattle.page_line.proofs.Laws.Line.{length-spaces, vertex_wrote}
use Rattle.page_line.proofs.write_vertex.Goals as goal

-- `write_vertex` meets its contract.
pub write_byte-ones-requires : goal.write_byte-ones-requires
write_byte-ones-requires c =
    omega (arith, length-spaces c.args.depth)

pub write_byte-rest-requires : goal.write_byte-rest-requires
write_byte-rest-requires c =
    omega (arith, length-spaces c.args.depth)

pub write_spaces-requires : goal.write_spaces-requires
write_spaces-requires c =
    omega (arith, length-spaces c.args.depth)

pub returns : goal.returns
returns c =
    vertex_wrote c.args.depth c.args.v c.requires.0 c.requires.2 c.write_spaces-tens.ensures c.write_byte-ones.ensures c.write_byte-rest.ensures
    c.write_spaces.ensures
