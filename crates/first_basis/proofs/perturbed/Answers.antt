use borrow.Author.Tests.{eq-eqb, ne_eqb}
use Rattle.first_basis.proofs.perturbed.Goals as goal

-- `perturbed` meets its contract, at 0 and elsewhere. Assumes nothing.
pub returns-then-y-eq0 : goal.returns-then-y-eq0
returns-then-y-eq0 c = rw (eq-eqb _ _ c.if-y-eq0.true)

pub returns-else-y-eq0 : goal.returns-else-y-eq0
returns-else-y-eq0 c = rw (ne_eqb _ _ c.if-y-eq0.false)
