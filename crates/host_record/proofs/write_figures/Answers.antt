use Rattle.host_record.proofs.Laws.Record.{figures}
use Rattle.host_record.proofs.write_figures.Goals as goal

pub returns : goal.returns
returns c =
    figures _ _ _ _ _ _ _ c.requires c.put.ensures c.put-2.ensures c.put-3.ensures
