use mathlib.Core.Path.{◌≡◌, sym}
use native.Mathlib.Omega.{arith}
use lib.ListN.{length}
use Rattle.std.proofs.lemmas.List.{length-take-le, get_or-take}
use Rattle.graph.specs.Checks.{length_fits}
use Rattle.arithmetic.proofs.Laws.Bools.{all_none, all-step}
use Rattle.graph.proofs.edges.Graph.lengths_fit.Goals as goal

pub loop-size-init : goal.loop-size-init
loop-size-init c = sym (all_none _)

pub loop-size-preserved : goal.loop-size-preserved
unfolding length_fits
loop-size-preserved c =
    let g = c.args.self.now in
    let size = length-take-le (length g.a.now) g.lengths.now c.requires in
    rw (c.loop-size.invariant, all-step, get_or-take (length g.a.now) g.lengths.now c.loop-size.size-index 0 (omega (arith, size)))

pub returns : goal.returns
returns c =
    let g = c.args.self.now in
    let size = length-take-le (length g.a.now) g.lengths.now c.requires in
    let end : c.loop-size.size-index ≡ length g.a.now = omega (arith, size) in
    rw end at c.loop-size.invariant
