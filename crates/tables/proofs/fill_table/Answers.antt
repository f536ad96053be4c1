use mathlib.Core.Path.{ap, ◌∙◌}
use lib.ListN.{replicate}
use lib.Seq.{length-take-le}
use Rattle.tables.proofs.Laws.Even.{even_filled}
use Rattle.tables.proofs.fill_table.Goals as goal

pub returns : goal.returns
returns c =
    even_filled _ _ _ _ c.requires
    (c.fill.ensures.after (λ _ e. e) ∙ ap (λ m. replicate m c.args.value) (length-take-le _ c.args.out.now c.requires))
