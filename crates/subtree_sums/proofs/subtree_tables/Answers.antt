use native.Mathlib.Omega.{arith}
use Rattle.subtree_sums.proofs.Laws.Sums.{filled-subtotal, filled_light}
use Rattle.subtree_sums.proofs.subtree_tables.Goals as goal

pub sum_below-requires-clause-masses : goal.sum_below-requires-clause-masses
sum_below-requires-clause-masses c =
    let room = c.requires.places in
    let m = c.requires.masses in
    (filled_light c.copy.ensures room.supply_long (omega (arith, m)), filled_light c.copy-2.ensures room.demand_long (omega (arith, m)))

pub returns-clause-first : goal.returns-clause-first
returns-clause-first c =
    let first = filled-subtotal _ c.copy.ensures c.sum_below.ensures.first in
    record { size = omega (arith, first.size, c.copy.ensures.size); each = first.each }

pub returns-clause-second : goal.returns-clause-second
returns-clause-second c =
    let second = filled-subtotal _ c.copy-2.ensures c.sum_below.ensures.second in
    record { size = omega (arith, second.size, c.copy-2.ensures.size); each = second.each }
