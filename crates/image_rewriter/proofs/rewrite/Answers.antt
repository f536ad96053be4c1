use mathlib.Core.Path.{refl}
use native.Mathlib.Omega.{arith}
use Rattle.image_rewriter.proofs.Laws.Readable.{all_bytes}
use Rattle.image_rewriter.proofs.Laws.Rewritten.{not-rewritten, was_written}
use Rattle.image_rewriter.proofs.rewrite.Goals as goal

-- `rewrite` meets its contract.
pub returns-in_err-n : goal.returns-in_err-n
returns-in_err-n c =
    not-rewritten _ c.in_err-n.ensures
    (record { lower = omega arith; upper = omega arith; lengths = omega arith; mu = omega arith; nu = omega arith; parents = omega arith }) _
    c.from_residual.ensures.1

pub returns : goal.returns
returns c =
    was_written _ c.in_ok-n.ensures _ refl (all_bytes c.args.image.now (λ i. omega (arith, c.type_inv.image i)))
    (rw c.zip-tree.ensures at c.write_image.ensures)
