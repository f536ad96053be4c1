use mathlib.Core.Bool.{not}
use mathlib.Core.Path.{ap}
use native.Mathlib.Omega.{arith}
use Rattle.arithmetic.proofs.Laws.Refusal.{refusals, test_held}
use Rattle.graph.specs.Checks.{edge_checks}
use Rattle.graph.proofs.Laws.Accepted.{vertices_in, lists_fit_in}
use Rattle.path_labels.proofs.Laws.ShortestPath.{edge_tree}
use Rattle.graph_checks.proofs.Laws.Connecting.{connected_is}
use Rattle.graph_checks.proofs.check_edges.Goals as goal

pub edges_fit-requires : goal.edges_fit-requires
edges_fit-requires c = ((vertices_in _ c.requires.0.vertices).1, (lists_fit_in _ _ _ c.requires.0.lists).1.0)

pub lengths_fit-requires : goal.lengths_fit-requires
lengths_fit-requires c = omega (arith, lists_fit_in _ _ _ c.requires.0.lists)

pub shortest_path_tree-requires : goal.shortest_path_tree-requires
shortest_path_tree-requires c =
    let s = c.requires in
    record {
      formed = record {
        vertices = s.0.vertices;
        lists = s.0.lists;
        edges = test_held _ _ c.edges_fit.ensures (ap not c.if-not-edges_fit.false);
        lengths = test_held _ _ c.lengths_fit.ensures (ap not c.if-not-lengths_fit.false);
      };
      start_in = (vertices_in _ s.0.vertices).0;
      wide = (s.1.0, (s.1.1, omega arith));
    }

pub returns-then-not-shortest_path_tree : goal.returns-then-not-shortest_path_tree
unfolding edge_checks
returns-then-not-shortest_path_tree c = record { number = search (refusals, connected_is) depth 9; tree = λ z. absurd (omega arith) }

pub returns : goal.returns
unfolding edge_checks
returns c = record {
  number = search (refusals, connected_is) depth 9;
  tree = λ _.
      edge_tree (vertices_in _ c.requires.0.vertices).0 (search refusals) (c.shortest_path_tree.ensures.tree (c.if-not-shortest_path_tree.false));
}
