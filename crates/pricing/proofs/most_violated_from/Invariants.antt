use Rattle.std.proofs.Common.{◌*◌, length}
use Rattle.graph.specs.Graph.{graph_of}
use Rattle.pricing.specs.Steps.Entering.{scaled_violation, half_unit, Clear}
use Rattle.pricing.proofs.most_violated_from.Given as goal

abbrev pub invariant-loop-block : goal.invariant-loop-block
invariant-loop-block l = Clear (length l.g.a.now) (scaled_violation (graph_of l.g) l.potential) half_unit (64 * l.first) (64 * l.block)
