use Rattle.packed_image.proofs.Laws.Written.{pair-placed}
use Rattle.packed_image.proofs.write_pair.Goals as goal

-- `write_pair` meets its contract.
pub returns : goal.returns
returns c =
    pair-placed _ _ _ _ _ _ c.requires c.put.ensures c.put-2.ensures
