use Rattle.image_sections.proofs.Laws.Sections.{tree_placed}
use Rattle.image_sections.proofs.write.write_tree.Goals as goal

pub returns-in-Some : goal.returns-in-Some
returns-in-Some c =
    rw c.in-Some.is (tree_placed _ _ _ _ _ _ (rw c.in-Some.is at c.requires).2 c.put.ensures c.put_numbers.ensures)
