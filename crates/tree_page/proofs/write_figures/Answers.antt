use native.Mathlib.Omega.{arith}
use Rattle.arithmetic.specs.Table.{at}
use Rattle.graph.specs.Graph.{graph}
use Rattle.tree_evaluation.proofs.Laws.Evaluate.{potential_asked, potential-from}
use Rattle.tree_page.proofs.write_figures.Goals as goal

pub write_potential-requires : goal.write_potential-requires
write_potential-requires c =
    let a = potential_asked c.requires.0 c.tree_flow.ensures.words (omega (arith, c.requires.0.few)) c.tree_flow.ensures.figures c.requires.1 in
    record { n_bound = a.0; long = a.1.0; lengths = a.1.1 }

pub returns : goal.returns
returns c =
    let a = c.args in
    let e = c.tree_flow.ensures in
    λ x y l h. record {
      imbalance_is = e.figures;
      potential_is =
          potential-from (graph a.tree.n x y l) a.tree.root (at a.tree.parents) (at a.mu.now) (at a.nu.now) (at a.above.now) h
          a.imbalance.now a.potential.now e.words e.figures c.write_potential.ensures;
    }
