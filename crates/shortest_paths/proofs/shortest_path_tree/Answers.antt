use mathlib.Core.Path.{refl}
use native.Mathlib.Omega.{arith}
use Rattle.graph.proofs.Laws.Formed.{vertices}
use Rattle.path_labels.proofs.Laws.Labelling.{first_labelled, searched}
use Rattle.shortest_paths.proofs.shortest_path_tree.Goals as goal

pub initialize-requires : goal.initialize-requires
initialize-requires c =
    (omega (arith, c.requires.start_in, vertices c.requires.formed), (c.requires.wide.0, c.requires.wide.1.1))

pub sweep_up-requires : goal.sweep_up-requires
sweep_up-requires c =
    (c.args.g.now.n, (c.args.start, first_labelled c.requires c.initialize.ensures))

pub loop-init : goal.loop-init
loop-init c =
    let w = c.sweep_up.ensures _ _ (first_labelled c.requires c.initialize.ensures) in
    (w.labelled, λ e l. w.feasible e (omega arith) l)

pub round-requires : goal.round-requires
round-requires c =
    ((c.args.g.now.n, (c.args.start, c.loop.invariant.0)), c.loop.invariant.1)

pub loop-smaller : goal.loop-smaller
loop-smaller c =
    let w = c.round.ensures _ _ c.loop.invariant.0 in
    omega (arith, rw c.loop-test.true at w.less)

pub loop-preserved : goal.loop-preserved
loop-preserved c =
    let w = c.round.ensures _ _ c.loop.invariant.0 in
    (w.labelled, w.up)

pub all_reached-requires : goal.all_reached-requires
all_reached-requires c =
    let w = c.round.ensures _ _ c.loop.invariant.0 in
    omega (arith, w.labelled.can.wide, vertices w.labelled.can.formed)

pub returns : goal.returns
returns c =
    let w = c.round.ensures _ _ c.loop.invariant.0 in
    searched w.labelled (w.closed c.loop-test.false) _ c.all_reached.ensures
