use native.Mathlib.Omega.{arith}
use Rattle.decimal_text.proofs.Laws.Decimal.{last_room, last_wrote, others_room, others_wrote}
use Rattle.decimal_text.proofs.+write_number.Goals as goal

pub write_byte-requires : goal.write_byte-requires
write_byte-requires t c = last_room _ _ c.args.out.now c.if-x-lt10.true c.requires

pub returns-then-x-lt10 : goal.returns-then-x-lt10
returns-then-x-lt10 t c = last_wrote _ _ _ c.if-x-lt10.true c.write_byte.ensures

pub write_number-last-requires : goal.write_number-last-requires
write_number-last-requires t c =
    (omega arith, omega (arith, others_room c.args.from c.args.x c.args.out.now c.ranges.x.fits c.if-x-lt10.false c.requires))

pub write_byte-requires-2 : goal.write_byte-requires-2
write_byte-requires-2 t c =
    omega (
      arith,
      others_room c.args.from c.args.x c.args.out.now c.ranges.x.fits c.if-x-lt10.false c.requires,
      c.write_number-last.ensures.next_is,
    )

pub returns : goal.returns
returns t c =
    others_wrote _ _ _ c.ranges.x.fits c.if-x-lt10.false c.requires c.write_number-last.ensures c.write_byte-2.ensures
