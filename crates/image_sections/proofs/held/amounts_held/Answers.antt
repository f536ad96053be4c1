use Rattle.std.proofs.Common.{rules}
use Rattle.arithmetic.proofs.Laws.Slices.{all_entries}
use Rattle.image_sections.proofs.held.amounts_held.Goals as goal

pub returns : goal.returns
returns c = all_entries _ _ _ (search rules)
