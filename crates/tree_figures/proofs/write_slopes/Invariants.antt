use lib.IntN.{pos}
use lib.ListN.{get_or}
use Rattle.arithmetic.specs.Table.{at}
use Rattle.arithmetic.specs.Steps.Fill.{Filling}
use Rattle.tree_figures.specs.Steps.Tables.{rises, falls, slope}
use Rattle.tree_figures.proofs.write_slopes.Given as goal

abbrev pub invariant-loop-x : goal.invariant-loop-x
invariant-loop-x l = Filling l.n (slope l.root (at l.above) (λ x. rises (get_or l.imbalance x (pos 0)))) l.initial.rising l.rising l.x
    × Filling l.n (slope l.root (at l.above) (λ x. falls (get_or l.imbalance x (pos 0)))) l.initial.falling l.falling l.x
