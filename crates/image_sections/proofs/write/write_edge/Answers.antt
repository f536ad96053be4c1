use Rattle.image_sections.proofs.Laws.Sections.{edge_placed}
use Rattle.image_sections.proofs.write.write_edge.Goals as goal

-- `write_edge` meets its contract.
pub returns : goal.returns
returns c =
    edge_placed _ _ _ _ _ _ _ _ c.requires c.put.ensures c.put-2.ensures c.put-3.ensures
