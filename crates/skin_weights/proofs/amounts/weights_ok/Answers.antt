use Rattle.std.proofs.Common.{rules}
use Rattle.skin_weights.specs.Weight.{in_unit_interval}
use Rattle.skin_weights.specs.Lists.{weight_at}
use Rattle.skin_weights.proofs.Laws.Tests.{all_items}
use Rattle.skin_weights.proofs.amounts.weights_ok.Goals as goal

pub returns : goal.returns
returns c = all_items c.all.result c.args.weights.now (λ i. in_unit_interval (weight_at c.args.weights.now i)) (search rules)
