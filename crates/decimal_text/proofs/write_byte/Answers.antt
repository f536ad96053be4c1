use Rattle.decimal_text.proofs.Laws.Wrote.{byte_wrote}
use Rattle.decimal_text.proofs.write_byte.Goals as goal

-- `write_byte` meets its contract.
pub returns : goal.returns
returns c = byte_wrote _ _ _ c.requires
