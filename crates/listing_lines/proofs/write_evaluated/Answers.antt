use native.Mathlib.Nat.{mul-le-mul}
use native.Mathlib.Omega.{arith}
use Rattle.decimal_text.proofs.Laws.Wrote.{wrote_then, wrote_front}
use Rattle.listing_lines.specs.Lines.{cost_word, moves_word}
use Rattle.listing_lines.proofs.Laws.Line.{line_most}
use Rattle.listing_lines.proofs.write_evaluated.Goals as goal

-- `write_evaluated` meets its contract.
pub write_line-first-requires : goal.write_line-first-requires
write_line-first-requires c = omega (arith, line_most cost_word c.args.cost (omega arith))

pub write_line-second-requires : goal.write_line-second-requires
write_line-second-requires c =
    omega (arith, line_most cost_word c.args.cost (omega arith), line_most moves_word c.args.moves (omega arith))

pub write_rows-requires : goal.write_rows-requires
write_rows-requires c =
    let most = mul-le-mul c.requires.0 c.requires.0 in (
      c.requires.0,
      c.requires.1,
      omega (arith, line_most cost_word c.args.cost (omega arith), line_most moves_word c.args.moves (omega arith)),
    )

pub returns : goal.returns
returns c =
    let a = line_most cost_word c.args.cost (omega arith) in
    let b = line_most moves_word c.args.moves (omega arith) in
    let v = c.write_line-first.ensures in
    let w = c.write_line-second.ensures in
    let t = wrote_front (wrote_then (omega (arith, v.next_is)) v (wrote_then (omega (arith, v.next_is, w.next_is)) w c.write_rows.ensures)) in
    record { text = t.0; size = t.1 }
