use Rattle.packed_image.proofs.Laws.Written.{header-placed}
use Rattle.packed_image.proofs.write_header.Goals as goal

-- `write_header` meets its contract.
pub returns : goal.returns
returns c =
    header-placed _ _ _ _ _ _ _ _ _ _ c.requires.1 c.put.ensures c.put-2.ensures c.put-3.ensures
    c.write_pairs.ensures
