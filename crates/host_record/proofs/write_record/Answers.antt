use mathlib.Core.Path.{refl}
use Rattle.host_record.proofs.Laws.Record.{sections}
use Rattle.host_record.proofs.write_record.Goals as goal

pub returns : goal.returns
returns c =
    sections _ _ _ _ _ _ _ _ c.requires.4 _ _ _ _ _ _ c.write_figures.ensures c.put_numbers.ensures refl
    c.write_potential.ensures refl c.put_numbers-2.ensures
