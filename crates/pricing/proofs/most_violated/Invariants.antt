use Rattle.std.proofs.Common.{◌*◌}
use Rattle.graph.specs.Graph.{graph_of}
use Rattle.pricing.specs.Steps.Entering.{scaled_violation, half_unit}
use Rattle.pricing.proofs.Laws.Entering.{LargestSoFar}
use Rattle.pricing.proofs.most_violated.Given as goal

abbrev pub invariant-loop-e : goal.invariant-loop-e
invariant-loop-e l = LargestSoFar (scaled_violation (graph_of l.g) l.potential) half_unit (64 * l.block) l.e l.found l.most
