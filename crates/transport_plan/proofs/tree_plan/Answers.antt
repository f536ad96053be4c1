use Rattle.transport_plan.proofs.Laws.Start.{zeros_filled, tree_depths, tree_sets, plan-filled, plan-moves}
use Rattle.transport_plan.proofs.tree_plan.Goals as goal

pub keep_shared-residue-requires : goal.keep_shared-residue-requires
keep_shared-residue-requires c =
    (c.requires.tree_tables.0.small, c.requires.measures, zeros_filled _ _ _ c.requires.tree_tables.1 c.fill_table.ensures)

pub take_layers-requires : goal.take_layers-requires
take_layers-requires c =
    (tree_depths c.requires.tree_tables.0, tree_sets c.requires.tree_tables.0, c.keep_shared-residue.ensures.consistent)

pub returns : goal.returns
returns c =
    let e = plan-filled c.requires.tree_tables.0 _ c.fill_table.ensures c.keep_shared-residue.ensures c.take_layers.ensures in
    record { table = e; unmatched = plan-moves _ _ _ _ _ e c.count_moves.ensures }
