use mathlib.Core.Path.{◌∙◌}
use native.Mathlib.Omega.{arith}
use lib.IntN.{pos}
use lib.ListN.{get_or}
use mir.Syntax.{w32}
use mir.ValLaws.{to_z-of_z}
use Rattle.arithmetic.specs.Table.{at}
use Rattle.arithmetic.proofs.Laws.Fill.{filling_none, filling_more, filling_end}
use Rattle.tree_figures.proofs.Laws.Figure.{slopes_are, heights_are}
use Rattle.tree_figures.proofs.write_potential.Goals as goal

pub word_heights-heights-requires-clause-slopes : goal.word_heights-heights-requires-clause-slopes
word_heights-heights-requires-clause-slopes c =
    let few = c.requires.n_bound.0 in
    slopes_are few c.requires.lengths.0 (λ x. get_or c.args.imbalance.now x (pos 0)) c.write_slopes.ensures.up c.write_slopes.ensures.down few few

pub loop-y-init : goal.loop-y-init
loop-y-init c = filling_none _ _ c.requires.n_bound.1

pub difference-requires : goal.difference-requires
difference-requires c = (
  (heights_are c.requires.n_bound.0 c.requires.lengths.0 (λ x. get_or c.args.imbalance.now x (pos 0)) c.write_slopes.ensures.up c.write_slopes.ensures.down
      (at c.args.masks.now) (at c.word_heights-heights.result) c.word_heights-heights.ensures.1 c.loop-y.y c.loop-y-test.true).1,
  omega arith,
)

pub loop-y-preserved : goal.loop-y-preserved
loop-y-preserved c =
    let e = (heights_are c.requires.n_bound.0 c.requires.lengths.0 (λ x. get_or c.args.imbalance.now x (pos 0)) c.write_slopes.ensures.up c.write_slopes.ensures.down
    (at c.args.masks.now) (at c.word_heights-heights.result) c.word_heights-heights.ensures.1 c.loop-y.y c.loop-y-test.true).0 in
    filling_more c.loop-y.invariant c.loop-y-test.true (to_z-of_z w32 _ (record { sfits = c.difference.type_inv }) ∙ c.difference.ensures ∙ e)

pub returns : goal.returns
returns c = filling_end c.loop-y.invariant c.loop-y-test.false
