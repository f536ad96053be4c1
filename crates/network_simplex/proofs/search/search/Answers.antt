use native.Mathlib.Omega.{arith}
use Rattle.pricing.proofs.Laws.Entering.{edges_few}
use Rattle.network_simplex.proofs.Laws.Search.{search_keeps, search_less, potential_small}
use Rattle.network_simplex.proofs.search.search.Goals as goal

pub entering_edge-entering-requires : goal.entering_edge-entering-requires
entering_edge-entering-requires c = (c.requires.accepted, omega arith, potential_small c.requires.basis)

pub loop-entering-init : goal.loop-entering-init
loop-entering-init c = (c.entering_edge-entering.ensures, λ m v b. b)

pub next_block-requires : goal.next_block-requires
next_block-requires c =
    let here = rw c.in-Some.is at c.loop-entering.invariant.0 in
    omega (arith, here.0, edges_few c.requires.accepted)

pub entering_edge-entering-requires-in-Some : goal.entering_edge-entering-requires-in-Some
entering_edge-entering-requires-in-Some c =
    let here = rw c.in-Some.is at c.loop-entering.invariant.0 in (
      c.requires.accepted,
      omega (arith, c.next_block.ensures, here.0),
      potential_small (search_keeps c.requires c.loop-entering.invariant.1 c.improve.ensures _ _ c.requires.basis),
    )

pub loop-entering-smaller : goal.loop-entering-smaller
loop-entering-smaller c =
    search_less c.requires c.loop-entering.invariant.1 c.improve.ensures

pub loop-entering-preserved : goal.loop-entering-preserved
loop-entering-preserved c =
    (c.entering_edge-entering-in-Some.ensures, search_keeps c.requires c.loop-entering.invariant.1 c.improve.ensures)
