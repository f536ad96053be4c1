use Prim.Native.Nat.{◌-◌, ◌≤◌}
use mathlib.Core.Path.{◌≡◌}
use mathlib.Core.Bool.{true}
use Rattle.arithmetic.specs.Bools.{all}
use Rattle.directory.specs.Directory.{pair_ok}
use Rattle.directory.proofs.pairs_ok.Given as goal

abbrev pub invariant-loop-t : goal.invariant-loop-t
invariant-loop-t l = (l.t ≤ l.count) × (all l.t (pair_ok l.d l.first l.bytes) ≡ true)
