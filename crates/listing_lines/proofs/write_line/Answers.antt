use native.Mathlib.Omega.{arith}
use Rattle.listing_lines.proofs.Laws.Line.{length-line, line_wrote}
use Rattle.listing_lines.proofs.write_line.Goals as goal

-- `write_line` meets its contract.
pub write_word-first-requires : goal.write_word-first-requires
write_word-first-requires c = omega (arith, length-line c.args.word.now c.args.x)

pub write_spaced-second-requires : goal.write_spaced-second-requires
write_spaced-second-requires c = omega (arith, length-line c.args.word.now c.args.x)

pub write_byte-requires : goal.write_byte-requires
write_byte-requires c = omega (arith, length-line c.args.word.now c.args.x)

pub returns : goal.returns
returns c =
    line_wrote _ _ _ _ c.requires c.write_word-first.ensures c.write_spaced-second.ensures c.write_byte.ensures
