use native.Mathlib.Omega.{arith}
use Rattle.listing_lines.proofs.Laws.Line.{two_places, ten_digits, entry_none, entry_wrote}
use Rattle.listing_lines.proofs.write_entry.Goals as goal

-- `write_entry` meets its contract.
pub returns-then-v-eq0 : goal.returns-then-v-eq0
returns-then-v-eq0 c = entry_none c.args.from c.args.i c.args.j _ _ c.if-v-eq0.true

pub write_number-first-requires : goal.write_number-first-requires
write_number-first-requires c = omega (arith, two_places c.args.i c.requires.0)

pub write_spaced-second-requires : goal.write_spaced-second-requires
write_spaced-second-requires c =
    omega (arith, two_places c.args.i c.requires.0, two_places c.args.j c.requires.1)

pub write_spaced-third-requires : goal.write_spaced-third-requires
write_spaced-third-requires c =
    omega (
      arith,
      two_places c.args.i c.requires.0,
      two_places c.args.j c.requires.1,
      ten_digits c.args.v c.ranges.v.fits,
    )

pub write_byte-requires : goal.write_byte-requires
write_byte-requires c =
    omega (
      arith,
      two_places c.args.i c.requires.0,
      two_places c.args.j c.requires.1,
      ten_digits c.args.v c.ranges.v.fits,
    )

pub returns : goal.returns
returns c =
    entry_wrote _ _ _ _ _ c.if-v-eq0.false c.requires.0 c.requires.1 c.ranges.v.fits c.requires.2 c.write_number-first.ensures
    c.write_spaced-second.ensures c.write_spaced-third.ensures c.write_byte.ensures
