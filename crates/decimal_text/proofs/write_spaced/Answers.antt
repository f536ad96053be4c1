use native.Mathlib.Omega.{arith}
use Rattle.decimal_text.proofs.Laws.Wrote.{wrote_then}
use Rattle.decimal_text.proofs.write_spaced.Goals as goal

-- `write_spaced` meets its contract.
pub returns : goal.returns
returns c =
    let w = c.write_byte-at.ensures in
    wrote_then (omega (arith, w.next_is, c.requires)) w c.write_number.ensures
