use mathlib.Core.Path.{refl}
use Rattle.image_writer.specs.ImageBytes.{section}
use Rattle.image_writer.proofs.Laws.Whole.{whole}
use Rattle.image_writer.proofs.write_all.Goals as goal

pub returns : goal.returns
unfolding section
returns c =
    whole _ _ c.requires.fits _ _ _ _ _ _ _ _ (rw c.is_some.ensures at c.write_front.ensures) c.write_edges.ensures refl c.write_amounts.ensures refl
    c.write_amounts-2.ensures refl c.write_tree.ensures
