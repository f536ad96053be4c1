use mathlib.Core.Path.{◌≡◌}
use Rattle.arithmetic.specs.Bools.{all}
use Rattle.graph.specs.Checks.{edge_fits}
use Rattle.graph.proofs.edges.Graph.edges_fit.Given as goal

abbrev pub invariant-loop-e : goal.invariant-loop-e
invariant-loop-e l = l.fits ≡ all l.e (edge_fits l.self.n l.self.a.now l.self.b.now)
