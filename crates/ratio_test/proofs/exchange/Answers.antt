use mathlib.Core.Path.{refl, sym, ◌∙◌}
use mathlib.Core.Bool.{true≢false}
use Rattle.ratio_test.proofs.Laws.Leaving.{can_walk_s, can_walk_t, turns_t, turns_s, some_up}
use Rattle.ratio_test.specs.Steps.Leaving.{IsLess}
use Rattle.ratio_test.proofs.exchange.Goals as goal

-- `exchange` meets its contract: the lesser of the least flows of both sides leaves. Assumes nothing.
pub lowest_common_ancestor-ancestor-requires : goal.lowest_common_ancestor-ancestor-requires
lowest_common_ancestor-ancestor-requires c = c.requires.meet

pub least_flow-up-requires : goal.least_flow-up-requires
least_flow-up-requires c =
    (c.requires.meet.few, can_walk_s c.requires c.lowest_common_ancestor-ancestor.ensures)

pub least_flow-down-requires : goal.least_flow-down-requires
least_flow-down-requires c =
    (c.requires.meet.few, can_walk_t c.requires c.lowest_common_ancestor-ancestor.ensures)

pub returns-then-is_less : goal.returns-then-is_less
returns-then-is_less c =
    let less = c.is_less.ensures.0 c.if-is_less.true in
    (refl, turns_t c.requires c.lowest_common_ancestor-ancestor.ensures _ c.unwrap.result c.least_flow-up.ensures (rw c.unwrap.ensures at c.least_flow-down.ensures) (rw c.unwrap.ensures at less))

pub unwrap-requires-else-is_less : goal.unwrap-requires-else-is_less
unwrap-requires-else-is_less c =
    some_up c.requires c.lowest_common_ancestor-ancestor.ensures _ _ c.least_flow-up.ensures c.least_flow-down.ensures
    (λ l. true≢false (sym (c.is_less.ensures.1 l) ∙ c.if-is_less.false))

pub returns-else-is_less : goal.returns-else-is_less
returns-else-is_less c = (
  refl,
  turns_s c.requires c.lowest_common_ancestor-ancestor.ensures c.unwrap-else-is_less.result _ (rw c.unwrap-else-is_less.ensures at c.least_flow-up.ensures) c.least_flow-down.ensures
      (rw c.unwrap-else-is_less.ensures at (λ (l : IsLess c.least_flow-down.result c.least_flow-up.result). true≢false (sym (c.is_less.ensures.1 l) ∙ c.if-is_less.false))),
)
