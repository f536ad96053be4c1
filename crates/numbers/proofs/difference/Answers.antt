use native.Mathlib.Omega.{arith}
use mir.Syntax.{w32}
use Rattle.numbers.proofs.Laws.Signed.{sub_fits, sub_back}
use Rattle.numbers.proofs.difference.Goals as goal

pub overflow_sub-result : goal.overflow_sub-result
overflow_sub-result c = sub_fits w32 c.args.a c.args.b (omega arith) (omega arith)

pub returns : goal.returns
returns c = sub_back w32 c.args.a c.args.b (omega arith) (omega arith)
