use Rattle.std.proofs.Common.{refl, inl, inr, arith}
use Rattle.pricing.proofs.downhill_edge.Goals as goal

-- `downhill_edge` meets its contract, from either end. Assumes nothing.
pub returns-then-potential-y : goal.returns-then-potential-y
returns-then-potential-y c = record { ends = inl (refl, refl); s_low = omega arith; t_low = omega arith; down = omega arith; long_is = refl }

pub returns-else-potential-y : goal.returns-else-potential-y
returns-else-potential-y c = record { ends = inr (refl, refl); s_low = omega arith; t_low = omega arith; down = omega arith; long_is = refl }
