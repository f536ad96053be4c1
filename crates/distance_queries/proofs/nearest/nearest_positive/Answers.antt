use Rattle.distance_queries.proofs.Laws.Nearest.{nearest_none, nearest-step}
use Rattle.distance_queries.proofs.nearest.nearest_positive.Goals as goal

pub loop-v-init : goal.loop-v-init
loop-v-init c = (nearest_none _ _, tt)

pub loop-v-preserved : goal.loop-v-preserved
loop-v-preserved c =
    (nearest-step _ _ _ _ _ c.loop-v.invariant.0 c.nearer-best.ensures.value, c.nearer-best.ensures.vertex)
