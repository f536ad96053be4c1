use mathlib.Core.Path.{sym, ◌∙◌}
use Rattle.image_writer.proofs.Laws.Accepted.{writable}
use Rattle.image_writer.proofs.Laws.Size.{length_image}
use Rattle.image_writer.proofs.write_image.Goals as goal

pub write_all-requires : goal.write_all-requires
write_all-requires c = writable _ _ (sym c.in_ok-check.ensures)

pub image_size-requires : goal.image_size-requires
image_size-requires c = let w = writable _ _ (sym c.in_ok-check.ensures) in (w.few, w.edges)

pub returns : goal.returns
returns c = record {
  refusal = c.in_ok-check.ensures;
  length_is = (rw c.is_some.ensures at c.image_size.ensures) ∙ sym (length_image _);
  buffer_is = c.write_all.ensures;
}
