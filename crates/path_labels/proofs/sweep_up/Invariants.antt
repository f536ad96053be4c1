use Rattle.path_labels.specs.Steps.Labels.{SweepsUp}
use Rattle.path_labels.proofs.sweep_up.Given as goal

abbrev pub invariant-loop-e : goal.invariant-loop-e
invariant-loop-e l =
    SweepsUp l.g.a.now l.g.b.now l.g.lengths.now l.e l.initial.parents l.initial.edge l.initial.labels l.lowered l.parents l.edge l.labels
