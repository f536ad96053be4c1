use mathlib.Core.Path.{sym, ◌∙◌}
use Rattle.graph.specs.Graph.{graph_of}
use Rattle.graph.proofs.Laws.Accepted.{lists_in}
use Rattle.tree_checks.proofs.Laws.Edges.{noted_lengths, noted_answer}
use Rattle.tree_checks.proofs.checks.tree_edges_ok.Goals as goal

pub note_edges-requires-clause-lists : goal.note_edges-requires-clause-lists
note_edges-requires-clause-lists c =
    let g = graph_of c.args.g.now in
    lists_in g c.requires.graph.0

pub returns-clause-answer : goal.returns-clause-answer
returns-clause-answer c =
    let w = c.note_edges.ensures in
    c.all_joined.ensures ∙ noted_answer _ _ w _

pub returns-clause-table : goal.returns-clause-table
returns-clause-table c =
    let w = c.note_edges.ensures in
    λ e. noted_lengths _ _ w _ (sym c.all_joined.ensures ∙ e)
