use mathlib.Core.Path.{refl}
use Prim.Native.Nat.{◌-◌}
use native.Mathlib.Omega.{arith}
use Rattle.subtree_sums.proofs.Laws.Sums.{layer_of, depths_few, summing_first, summing_down, layer-out, summing_fits, layer_more, summing_more, summing_end}
use Rattle.subtree_sums.proofs.sum_below.Goals as goal

pub layers-layers-requires : goal.layers-layers-requires
layers-layers-requires c = (c.requires.n_bound.0, depths_few c.requires.n_bound.1.1)

pub loop-d-init : goal.loop-d-init
loop-d-init c = let g = c.requires.n_bound.1.1 in (g, (summing_first g _, summing_first g _))

pub loop-left-init : goal.loop-left-init
loop-left-init c =
    let w = c.loop-d.invariant in
    let e = c.layers-layers.ensures (c.loop-d.d - 1) (omega (arith, c.requires.n_bound.0)) in
    (w.0, (layer_of _ (omega arith) e, (summing_down _ w.1.0 refl (omega arith) e, summing_down _ w.1.1 refl (omega arith) e)))

pub loop-d-preserved : goal.loop-d-preserved
loop-d-preserved c =
    let w = c.loop-left.invariant in
    (w.0, rw c.loop-left-test.false at w.1.1)

pub overflow_add-supply : goal.overflow_add-supply
overflow_add-supply c =
    let w = c.loop-left.invariant in
    omega (arith, summing_fits w.0 w.1.1.0 c.requires.n_bound.0 w.1.0 (omega arith) c.lowest_vertex-x.ensures, c.requires.masses.0.total)

pub overflow_add-demand : goal.overflow_add-demand
overflow_add-demand c =
    let w = c.loop-left.invariant in
    omega (arith, summing_fits w.0 w.1.1.1 c.requires.n_bound.0 w.1.0 (omega arith) c.lowest_vertex-x.ensures, c.requires.masses.1.total)

pub overflow_sub-left : goal.overflow_sub-left
overflow_sub-left c =
    let w = c.loop-left.invariant in
    (layer-out w.0 w.1.1.0 c.requires.n_bound.0 w.1.0 (omega arith) c.lowest_vertex-x.ensures).part

pub loop-left-preserved : goal.loop-left-preserved
loop-left-preserved c =
    let w = c.loop-left.invariant in
    let few = c.requires.n_bound.0 in
    let first = c.lowest_vertex-x.ensures in (
      w.0,
      (
        layer_more w.0 w.1.1.0 few w.1.0 (omega arith) first,
        (
          summing_more w.0 w.1.1.0 few w.1.0 (omega arith) first c.requires.masses.0.long,
          summing_more w.0 w.1.1.1 few w.1.0 (omega arith) first c.requires.masses.1.long,
        ),
      ),
    )

pub returns-clause-first : goal.returns-clause-first
returns-clause-first c = let w = c.loop-d.invariant in summing_end w.0 w.1.0 refl (omega arith)

pub returns-clause-second : goal.returns-clause-second
returns-clause-second c = let w = c.loop-d.invariant in summing_end w.0 w.1.1 refl (omega arith)
