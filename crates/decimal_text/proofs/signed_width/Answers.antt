use native.Mathlib.Omega.{arith}
use Rattle.decimal_text.proofs.Laws.Decimal.{length-decimal}
use Rattle.decimal_text.proofs.signed_width.Goals as goal

-- `signed_width` meets its contract.
pub overflow_add-result : goal.overflow_add-result
overflow_add-result c =
    omega (arith, length-decimal 9 c.unsigned_abs.result (omega arith))
