use mathlib.Core.Path.{refl}
use Prim.Native.Nat.{◌+◌, ◌≤◌}
use native.Mathlib.Omega.{arith}
use native.Mathlib.Nat.{mul-le-mul_left}
use Rattle.little_endian.proofs.Laws.Byte.{section_none, section_more, section-end}
use Rattle.little_endian.proofs.write.put_numbers.Goals as goal

pub loop-i-init : goal.loop-i-init
loop-i-init g c = section_none _ _

pub overflow_mul-i : goal.overflow_mul-i
overflow_mul-i g c = let h : c.loop-i.i + 1 ≤ c.args.n = omega arith in omega (arith, mul-le-mul_left g.row.N h)

pub put-requires : goal.put-requires
put-requires g c = let h : c.loop-i.i + 1 ≤ c.args.n = omega arith in omega (arith, mul-le-mul_left g.row.N h)

pub loop-i-preserved : goal.loop-i-preserved
loop-i-preserved g c =
    let h : c.loop-i.i + 1 ≤ c.args.n = omega arith in
    section_more _ _ c.loop-i.invariant c.loop-i-test.true (omega (arith, mul-le-mul_left g.row.N h)) refl refl c.put.ensures

pub shape_of-out : goal.shape_of-out
shape_of-out g c = c.loop-i.invariant.long

pub returns : goal.returns
returns g c = section-end _ _ c.loop-i.invariant c.loop-i-test.false
