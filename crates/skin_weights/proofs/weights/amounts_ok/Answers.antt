use Rattle.std.proofs.Common.{◌^◌, leb, rules}
use Rattle.arithmetic.specs.Table.{at}
use Rattle.arithmetic.proofs.Laws.Slices.{all_entries}
use Rattle.skin_weights.proofs.weights.amounts_ok.Goals as goal

pub returns : goal.returns
returns c = all_entries c.all.result c.args.amounts.now (λ i. leb (at c.args.amounts.now i) (2 ^ 24)) (search rules)
