use native.Mathlib.Omega.{arith}
use Rattle.arithmetic.specs.Table.{at}
use Rattle.graph.specs.Graph.{graph}
use Rattle.subtree_sums.proofs.Laws.Sums.{subtotals_within}
use Rattle.tree_evaluation.proofs.Laws.Evaluate.{imbalances_found, cost_found}
use Rattle.tree_evaluation.proofs.tree_flow.Goals as goal

pub write_imbalance-requires-clause-masses : goal.write_imbalance-requires-clause-masses
write_imbalance-requires-clause-masses c =
    let p = c.requires.weighted in
    let e = c.subtree_tables.ensures in (
      subtotals_within _ _ _ _ _ _ e.first (omega (arith, p.measures.total_mu)),
      subtotals_within _ _ _ _ _ _ e.second (omega (arith, p.measures.total_nu)),
    )

pub tree_cost-requires-clause-masses : goal.tree_cost-requires-clause-masses
tree_cost-requires-clause-masses c =
    let p = c.requires.weighted in
    let e = c.subtree_tables.ensures in (
      subtotals_within _ _ _ _ _ _ e.first (omega (arith, p.measures.total_mu)),
      subtotals_within _ _ _ _ _ _ e.second (omega (arith, p.measures.total_nu)),
    )

pub returns-clause-figures : goal.returns-clause-figures
returns-clause-figures c =
    let s = c.args in
    imbalances_found s.tree.n (at s.tree.parents) (at s.mu.now) (at s.nu.now) s.flow.now c.subtree_tables.ensures.first c.subtree_tables.ensures.second c.write_imbalance.ensures

pub returns-clause-cost : goal.returns-clause-cost
returns-clause-cost c =
    let s = c.args in
    λ a b l h.
    cost_found (graph s.tree.n a b l) s.tree.root (at s.tree.parents) (at s.mu.now) (at s.nu.now) (at s.above.now) h
    c.subtree_tables.ensures.first c.subtree_tables.ensures.second c.tree_cost.ensures
