use native.Mathlib.Omega.{arith}
use Rattle.little_endian.proofs.Laws.Byte.{table_none, table_more, table_end}
use Rattle.little_endian.proofs.read.fill_bytes.Goals as goal

pub loop-e-init : goal.loop-e-init
loop-e-init c = table_none _

pub overflow_mul-step : goal.overflow_mul-step
overflow_mul-step c = omega (arith, c.requires.1 c.loop-e.e c.loop-e-test.true)

pub overflow_add-from : goal.overflow_add-from
overflow_add-from c = omega (arith, c.requires.1 c.loop-e.e c.loop-e-test.true)

pub get-requires : goal.get-requires
get-requires c = omega (arith, c.requires.1 c.loop-e.e c.loop-e-test.true)

pub loop-e-preserved : goal.loop-e-preserved
loop-e-preserved c =
    table_more _ c.loop-e.invariant c.loop-e-test.true c.requires.0 c.get.ensures.0

pub returns : goal.returns
returns c = table_end _ c.loop-e.invariant c.loop-e-test.false
