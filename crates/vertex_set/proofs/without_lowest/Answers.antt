use Rattle.vertex_set.proofs.Laws.Without.{cleared}
use Rattle.vertex_set.proofs.without_lowest.Goals as goal

pub returns : goal.returns
returns c = cleared _ _ c.requires.0 c.requires.1 c.requires.2
