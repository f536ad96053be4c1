use Prim.Native.Nat.{◌*◌}
use Rattle.forward_star.specs.Steps.Linked.{tail, Linked}
use Rattle.forward_star.proofs.ForwardStar.link_edges.Given as goal

abbrev pub invariant-loop-e : goal.invariant-loop-e
invariant-loop-e l = Linked (tail l.a l.b) (2 * l.e) l.star.last l.star.before
