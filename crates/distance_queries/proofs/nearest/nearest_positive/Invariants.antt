use mathlib.Core.Path.{◌≡◌}
use Prim.Native.Nat.{◌<◌}
use Rattle.std.specs.Prelude.{IfSome}
use Rattle.arithmetic.specs.Table.{at}
use Rattle.distance_queries.specs.Nearest.{nearest, or_64}
use Rattle.distance_queries.proofs.nearest.nearest_positive.Given as goal

abbrev pub invariant-loop-v : goal.invariant-loop-v
invariant-loop-v l = (or_64 l.best ≡ nearest (at l.distances) (at l.amounts) l.v) × IfSome l.best (λ x. x < 64)
