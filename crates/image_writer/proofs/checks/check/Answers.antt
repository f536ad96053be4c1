use mathlib.Core.Path.{◌∙◌}
use Rattle.arithmetic.proofs.Laws.Refusal.{test_failed, test_held}
use Rattle.image_writer.proofs.Laws.Size.{tables_are, gives_2, gives_13, gives_0}
use Rattle.image_writer.proofs.checks.check.Goals as goal

pub returns-then-not-tables_ok : goal.returns-then-not-tables_ok
returns-then-not-tables_ok c = gives_2 _ _ (search test_held) (tables_are _ _ ∙ search test_failed)

pub returns-then-not-numbers_ok : goal.returns-then-not-numbers_ok
returns-then-not-numbers_ok c = gives_13 _ _ (search test_held) (tables_are _ _ ∙ search test_held) (search test_failed)

pub returns : goal.returns
returns c = gives_0 _ _ (search test_held) (tables_are _ _ ∙ search test_held) (search test_held)
