use Rattle.decimal_text.proofs.Laws.Wrote.{word_wrote}
use Rattle.decimal_text.proofs.write_word.Goals as goal

-- `write_word` meets its contract.
pub returns : goal.returns
returns c = rw c.copy_from_slice.ensures.after (word_wrote _ _ _)
