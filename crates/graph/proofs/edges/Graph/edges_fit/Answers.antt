use mathlib.Core.Path.{sym}
use Rattle.arithmetic.proofs.Laws.Bools.{all_none, all-step}
use Rattle.graph.proofs.edges.Graph.edges_fit.Goals as goal

pub loop-e-init : goal.loop-e-init
loop-e-init c = sym (all_none _)

pub loop-e-preserved : goal.loop-e-preserved
loop-e-preserved c = rw (c.loop-e.invariant, c.edge_fits-fits.ensures, all-step)
