use native.Mathlib.Omega.{arith}
use Rattle.first_basis.proofs.Laws.TreePotential.{from_none, from_end, from_less, from_fits, from_more, from_enough, from_fewer}
use Rattle.first_basis.proofs.potential.potential_of.Goals as goal
use Rattle.first_basis.proofs.potential.potential_of.Goals.{then-subtrees-x, else-subtrees-x}

pub loop-x-init : goal.loop-x-init
loop-x-init c = from_none c.requires.0 c.requires.1

pub overflow_add-u : goal.overflow_add-u
overflow_add-u c =
    omega (arith, from_fits c.requires.0 c.loop-x.invariant c.loop-x-test.true)

pub overflow_sub-u : goal.overflow_sub-u
overflow_sub-u c =
    from_enough c.requires.0 c.loop-x.invariant c.loop-x-test.true c.if-subtrees-x.false

pub overflow_cast-x : goal.overflow_cast-x
overflow_cast-x c =
    omega (arith, c.requires.0.tree.into _ c.loop-x.invariant.low)

pub loop-x-smaller : goal.loop-x-smaller
loop-x-smaller c =
    from_less c.requires.0 c.loop-x.invariant c.loop-x-test.true

pub loop-x-preserved : goal.loop-x-preserved
loop-x-preserved c =
    let can = c.requires.0 in
    let inv = c.loop-x.invariant in
    let go = c.loop-x-test.true in
    elim c.if-subtrees-x.branch [
      | then-subtrees-x w ↦ rw w.u-is (from_more can inv go w.if-subtrees-x.true)
      | else-subtrees-x w ↦ rw w.u-is (from_fewer can inv go w.if-subtrees-x.false)
    ]

pub returns : goal.returns
returns c = from_end c.requires.0 c.loop-x.invariant c.loop-x-test.false
