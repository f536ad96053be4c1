use Rattle.first_basis.proofs.Laws.FirstBasis.{blank}
use Rattle.network_simplex.proofs.Laws.Search.{best-tree}
use Rattle.network_simplex.proofs.search.best_tree.Goals as goal

-- `best_tree` meets its contract: the first basis becomes an optimal one, which certifies its tree. Assumes nothing.
pub fill_basis-requires : goal.fill_basis-requires
fill_basis-requires c =
    (record { a = c.args.problem.now.graph.a.now; b = c.args.problem.now.graph.b.now; can = c.requires }, blank _ c.requires.parents_size)

pub search-requires : goal.search-requires
search-requires c =
    record { accepted = c.requires.accepted; m = _; v = _; basis = c.fill_basis.ensures.basis c.args.problem.now.graph.a.now c.args.problem.now.graph.b.now c.requires }

pub returns : goal.returns
returns c =
    best-tree c.requires (c.search.ensures _ _ (c.fill_basis.ensures.basis c.args.problem.now.graph.a.now c.args.problem.now.graph.b.now c.requires)) c.new.ensures
