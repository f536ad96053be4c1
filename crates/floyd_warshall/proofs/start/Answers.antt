use Rattle.graph.specs.Graph.{graph_of}
use Rattle.floyd_warshall.proofs.Laws.FloydWarshall.{via-start}
use Rattle.floyd_warshall.proofs.start.Goals as goal

pub returns : goal.returns
returns c =
    via-start (graph_of c.args.g.now) _ _ _ _ c.fill_table.ensures c.put_edges.ensures c.zero_diagonal.ensures
