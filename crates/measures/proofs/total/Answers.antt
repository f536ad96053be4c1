use mathlib.Core.Path.{◌≡◌, refl, sym}
use Prim.Native.Nat.{◌+◌}
use native.Mathlib.Omega.{arith}
use Rattle.std.proofs.lemmas.List.{length-take-le, get_or-take}
use Rattle.arithmetic.specs.Table.{at}
use Rattle.arithmetic.proofs.Laws.Sum.{sum-nil, sum_step, sum_front}
use Rattle.measures.proofs.total.Goals as goal

pub loop-v-init : goal.loop-v-init
loop-v-init c = (sym (sum-nil _), omega arith)

pub returns-then-v-t-clause-above : goal.returns-then-v-t-clause-above
returns-then-v-t-clause-above c =
    let f = at c.args.amounts.now in
    let size = length-take-le c.args.n c.args.amounts.now c.requires in
    let here = get_or-take c.args.n c.args.amounts.now c.loop-v.v-index 0 (omega (arith, size)) in
    (refl, omega (arith, size, here, sum_step c.loop-v.v-index f, sum_front (c.loop-v.v-index + 1) c.args.n f (omega (arith, size))))

pub loop-v-preserved : goal.loop-v-preserved
loop-v-preserved c =
    let size = length-take-le c.args.n c.args.amounts.now c.requires in
    let here = get_or-take c.args.n c.args.amounts.now c.loop-v.v-index 0 (omega (arith, size)) in
    omega (arith, here, sum_step c.loop-v.v-index (at c.args.amounts.now))

pub returns-clause-within : goal.returns-clause-within
returns-clause-within c =
    let size = length-take-le c.args.n c.args.amounts.now c.requires in
    let end : c.loop-v.v-index ≡ c.args.n = omega (arith, size) in
    (rw end at c.loop-v.invariant.0, c.loop-v.invariant.1)
