use mathlib.Core.Path.{◌∙◌}
use native.Mathlib.Omega.{arith}
use Rattle.arithmetic.specs.Steps.Mask.{bit}
use Rattle.vertex_set.proofs.Laws.Lowest.{zeros_lowest, some_lowest}
use Rattle.vertex_set.proofs.lowest_vertex.Goals as goal

pub returns : goal.returns
returns c =
    let e = zeros_lowest _ _ c.requires.0 c.requires.1 c.requires.2 in
    (e, omega (arith, e, some_lowest c.args.n (bit c.args.word) (λ z. c.requires.2 (c.requires.1 ∙ z))))
