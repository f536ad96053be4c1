use Rattle.image_writer.proofs.Laws.OneImage.{lent_written}
use Rattle.host_calls.proofs.images.mover_write_image.Goals as goal

pub returns-in-Ok : goal.returns-in-Ok
returns-in-Ok c = lent_written c.args.tree c.args.root _ c.then_some.ensures c.in-Ok.ensures

pub returns-in-Err : goal.returns-in-Err
returns-in-Err c = rw c.number.ensures.0 (lent_written c.args.tree c.args.root _ c.then_some.ensures c.in-Err.ensures)
