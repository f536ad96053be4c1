use mathlib.Core.Path.{◌≡◌}
use native.Mathlib.Omega.{arith}
use lib.ListN.{length}
use Rattle.path_labels.proofs.Laws.Labelling.{up_can, up_more}
use Rattle.path_labels.proofs.sweep_up.Goals as goal
use Rattle.path_labels.proofs.sweep_up.Goals.{then-relax, else-relax}

pub relax-requires : goal.relax-requires
relax-requires c = up_can c.loop-e.invariant c.loop-e-test.true c.requires

pub loop-e-preserved : goal.loop-e-preserved
loop-e-preserved c =
    up_more c.loop-e.invariant c.loop-e-test.true c.relax.ensures _ (elim c.if-relax.branch [ then-relax w ↦ cc | else-relax w ↦ cc ])

pub returns : goal.returns
returns c =
    let end : c.loop-e.e ≡ length c.args.g.now.a.now = omega arith in
    rw end at c.loop-e.invariant
