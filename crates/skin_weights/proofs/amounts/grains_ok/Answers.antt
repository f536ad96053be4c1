use Rattle.std.specs.Float.{nan}
use Rattle.std.proofs.Common.{rules}
use Rattle.std.proofs.lemmas.Iterator.{YieldsList-from_slice}
use Rattle.std.proofs.lemmas.Iterator.Adapters.{serves_from_places}
use Rattle.skin_weights.specs.Weight.{in_unit_interval, whole_grains}
use Rattle.skin_weights.specs.Lists.{weight_at}
use Rattle.skin_weights.proofs.Laws.Tests.{all_items, item_passes}
use Rattle.skin_weights.proofs.amounts.grains_ok.Goals as goal

pub all-requires-clause-callable : goal.all-requires-clause-callable
all-requires-clause-callable c =
    serves_from_places (YieldsList-from_slice c.args.weights.now (search rules)) (λ x q r. search rules) (λ x k l e _ _ _ _ _. item_passes c.args.weights.now nan in_unit_interval x.now k c.requires l e)

pub returns : goal.returns
returns c = all_items c.all.result c.args.weights.now (λ i. whole_grains (weight_at c.args.weights.now i)) (search rules)
