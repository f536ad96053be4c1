use Rattle.decimal_text.proofs.Laws.Signed.{minus_wrote}
use Rattle.decimal_text.proofs.write_signed.Goals as goal

-- `write_signed` meets its contract.
pub returns-then-z-lt0 : goal.returns-then-z-lt0
returns-then-z-lt0 c = minus_wrote _ c.ranges.z c.if-z-lt0.true c.unsigned_abs.ensures.value c.requires c.write_byte-digits.ensures c.write_number.ensures
