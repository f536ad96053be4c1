use Rattle.std.proofs.Common.{◌≡◌}
use Rattle.arithmetic.specs.Mask.{mask}
use Rattle.vertex_set.specs.Steps.Tested.{Tests}
use Rattle.vertex_set.proofs.words.word_of.Given as goal

abbrev pub invariant-loop-x : goal.invariant-loop-x
invariant-loop-x g l = (f : _) → Tests (goal.F-post g l.test) l.n f → l.word ≡ mask l.x f
