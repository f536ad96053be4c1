use Rattle.arithmetic.specs.Table.{at}
use Rattle.subtree_sums.specs.Steps.Sums.{Layered}
use Rattle.subtree_sums.proofs.Laws.Sums.{Layer, Summing}
use Rattle.subtree_sums.proofs.sum_below.Given as goal

abbrev pub invariant-loop-d : goal.invariant-loop-d
invariant-loop-d l = (g : Layered l.n (at l.parents) l.depths) × (Summing l.n (at l.parents) l.depths g (at l.initial.supply) l.d 0 l.initial.supply l.supply
    × Summing l.n (at l.parents) l.depths g (at l.initial.demand) l.d 0 l.initial.demand l.demand)

abbrev pub invariant-loop-left : goal.invariant-loop-left
invariant-loop-left l = (g : Layered l.n (at l.parents) l.depths) × (Layer l.n l.depths l.d l.left × (Summing l.n (at l.parents) l.depths g (at l.fn.supply) l.d l.left l.fn.supply l.supply
    × Summing l.n (at l.parents) l.depths g (at l.fn.demand) l.d l.left l.fn.demand l.demand))

abbrev pub decreases-loop-left : goal.decreases-loop-left
decreases-loop-left l = l.left
