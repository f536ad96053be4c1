use Rattle.path_labels.proofs.Laws.Labelling.{round_down, round_up}
use Rattle.path_labels.proofs.round.Goals as goal

pub returns-then-not-sweep_down : goal.returns-then-not-sweep_down
returns-then-not-sweep_down c =
    round_down c.sweep_down.ensures c.requires.1 (c.if-not-sweep_down.true)

pub sweep_up-requires : goal.sweep_up-requires
sweep_up-requires c =
    let m = c.requires.0 in
    (m.0, (m.1.0, (c.sweep_down.ensures _ _ m.1.1).labelled))

pub returns : goal.returns
returns c =
    round_up c.sweep_down.ensures c.sweep_up.ensures
