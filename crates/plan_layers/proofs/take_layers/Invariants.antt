use Rattle.plan_matching.specs.Steps.Residue.{Progress}
use Rattle.plan_layers.specs.Steps.Layers.{taken_by_tables}
use Rattle.plan_layers.proofs.take_layers.Given as goal

abbrev pub invariant-loop-d : goal.invariant-loop-d
invariant-loop-d l = Progress l.n (taken_by_tables l.n l.depth l.masks l.n) l.initial.residue l.initial.plan
    (taken_by_tables l.n l.depth l.masks l.d) l.residue l.plan
