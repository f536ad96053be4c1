use Rattle.plan_layers.proofs.Laws.Layering.{taking_out, taking_more, taking_end}
use Rattle.plan_layers.proofs.take_layer.Goals as goal

pub overflow_sub-left : goal.overflow_sub-left
overflow_sub-left c = (taking_out c.loop-left.invariant c.lowest_vertex-x.ensures).part

pub loop-left-preserved : goal.loop-left-preserved
loop-left-preserved c =
    taking_more c.loop-left.invariant c.lowest_vertex-x.ensures c.match_subtree.ensures

pub returns : goal.returns
returns c = taking_end c.loop-left.invariant c.loop-left-test.false
