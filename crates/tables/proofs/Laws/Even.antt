-- A table with the same number everywhere.
use mathlib.Core.Path.{◌≡◌, ap, ◌∙◌}
use mathlib.Core.List.{List, ◌++◌}
use Prim.Native.Nat.{ℕ, ◌*◌, ◌≤◌, ◌+◌}
use native.Mathlib.Omega.{arith}
use lib.ListN.{length, drop, replicate, length-append, length-drop, length-replicate, get_or-append}
use lib.Seq.{drop_at}
use Rattle.std.proofs.lemmas.List.{get_or-replicate}
use Rattle.arithmetic.specs.Steps.Matrix.{filled}
use Rattle.arithmetic.proofs.Laws.Table.{cell_below}
use Rattle.arithmetic.proofs.Laws.Matrix.{filled_by}

pub even_filled : (n v : ℕ) (lent front : List ℕ) → n * n ≤ length lent → front ≡ replicate (n * n) v
    → front ++ drop (n * n) lent ≡ filled n (λ _ _. v) lent
even_filled n v lent front room e =
    filled_by n (λ _ _. v) lent room (front ++ drop (n * n) lent)
    (rw (length-append, size, length-drop) (omega arith))
    (drop_at front (drop (n * n) lent) (n * n) size)
    (λ i j hi hj.
    get_or-append front (drop (n * n) lent) 0 (i * n + j) (rw size (cell_below n i j hi hj))
    ∙ rw e (get_or-replicate (n * n) (i * n + j) v 0 (cell_below n i j hi hj)))
  where
    size : length front ≡ n * n
    size = ap length e ∙ length-replicate (n * n) v
