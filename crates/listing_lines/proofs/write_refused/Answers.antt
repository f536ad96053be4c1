use native.Mathlib.Omega.{arith}
use Rattle.listing_lines.specs.Lines.{refused_word}
use Rattle.listing_lines.proofs.Laws.Line.{line_most}
use Rattle.decimal_text.proofs.Laws.Wrote.{wrote_front}
use Rattle.listing_lines.proofs.write_refused.Goals as goal

-- `write_refused` meets its contract.
pub write_line-requires : goal.write_line-requires
write_line-requires c =
    omega (arith, line_most refused_word c.args.k (omega arith))

pub returns : goal.returns
returns c = let w = wrote_front c.write_line.ensures in record { text = w.0; size = w.1 }
