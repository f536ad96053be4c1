use Rattle.dijkstra.proofs.Laws.Search.{can_link}
use Rattle.dijkstra.proofs.distances_from.Goals as goal

pub link_edges-star-requires : goal.link_edges-star-requires
link_edges-star-requires c = can_link c.requires.formed
