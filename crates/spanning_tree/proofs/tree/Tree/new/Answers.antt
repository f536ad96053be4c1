use mathlib.Core.Path.{refl, ap, ◌∙◌}
use Prim.Native.Nat.{ℕ, min}
use lib.ListN.{length, replicate}
use Rattle.spanning_tree.proofs.Laws.Valid.{held_all}
use Rattle.spanning_tree.proofs.tree.Tree.new.Goals as goal

pub returns : goal.returns
returns c =
    let count = c.min-count.ensures ∙ ap (λ (k : ℕ). min k (length c.args.parents.now)) c.min.ensures in
    (refl, (refl, held_all c.args.n _ c.args.parents.now (replicate 64 0) _ count refl refl c.copy_from_slice.ensures.after))
