use mathlib.Core.Path.{◌≡◌}
use Rattle.graph.specs.Checks.{length_fits}
use Rattle.arithmetic.specs.Bools.{all}
use Rattle.graph.proofs.edges.Graph.lengths_fit.Given as goal

abbrev pub invariant-loop-size : goal.invariant-loop-size
invariant-loop-size l = l.fits ≡ all l.size-index (length_fits l.self.lengths.now)
