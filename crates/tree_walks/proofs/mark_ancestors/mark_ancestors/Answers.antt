use mathlib.Core.Path.{sym, ◌∙◌}
use native.Mathlib.Omega.{arith}
use Rattle.refusals.proofs.Laws.Outcome.{handed_number, handed_some}
use Rattle.tree_walks.proofs.Laws.Marking.{mark_refused, mark_sizes, mark_rooted, mark_none, mark_some, walked_words}
use Rattle.tree_walks.proofs.mark_ancestors.mark_ancestors.Goals as goal

pub returns-in_err-check : goal.returns-in_err-check
returns-in_err-check c =
    let handed = c.from_residual.ensures.1 in
    let e = handed_number _ _ handed ∙ c.in_err-check.ensures in
    (e, mark_refused _ _ _ _ _ _ e (handed_some _ _ handed))

pub returns-then-y-n : goal.returns-then-y-n
returns-then-y-n c =
    let h = sym c.in_ok-check.ensures in
    (sym h, sym (mark_none _ _ _ _ h _ (omega arith)))

pub walk_up-requires-clause-n_bound : goal.walk_up-requires-clause-n_bound
walk_up-requires-clause-n_bound c =
    let s = mark_sizes _ _ _ _ (sym c.in_ok-check.ensures) in
    (omega arith, (omega arith, (omega arith, omega arith)))

pub walk_up-requires-clause-tree : goal.walk_up-requires-clause-tree
walk_up-requires-clause-tree c = mark_rooted _ _ _ _ (sym c.in_ok-check.ensures)

pub returns : goal.returns
returns c =
    let h = sym c.in_ok-check.ensures in
    let words = walked_words (mark_rooted _ _ _ _ h) (omega arith) (mark_sizes _ _ _ _ h).1.1 c.walk_up.ensures.bits in
    (sym h, words ∙ sym (mark_some _ _ _ _ h _ (omega arith)))
