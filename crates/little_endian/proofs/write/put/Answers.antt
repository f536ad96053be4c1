use Rattle.little_endian.proofs.Laws.Byte.{stored}
use Rattle.little_endian.proofs.write.put.Goals as goal

pub returns : goal.returns
returns g c = stored _ _ _ _ _ _ c.requires.0 c.to_le_bytes.ensures c.copy_from_slice.ensures.after
