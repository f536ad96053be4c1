use Rattle.page_line.proofs.Laws.Line.{spaces_wrote}
use Rattle.page_line.proofs.write_spaces.Goals as goal

-- `write_spaces` meets its contract.
pub returns : goal.returns
returns c = spaces_wrote _ _ _ c.requires (c.fill.ensures.after (λ y e. e))
