use Rattle.first_basis.proofs.Laws.FirstBasis.{blank}
use Rattle.first_basis.proofs.tree_basis.Goals as goal

pub fill_basis-requires : goal.fill_basis-requires
fill_basis-requires c = (c.requires, blank _ c.requires.can.parents_size)
