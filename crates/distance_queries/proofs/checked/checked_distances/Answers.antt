use mathlib.Core.Bool.{not}
use mathlib.Core.Path.{refl, ap}
use native.Mathlib.Omega.{arith}
use Rattle.arithmetic.proofs.Laws.Refusal.{refusals, passes, test_held}
use Rattle.refusals.proofs.Laws.Outcome.{handed_stops}
use Rattle.graph.specs.Checks.{edge_checks}
use Rattle.graph.proofs.Laws.Accepted.{vertices_in, lists_fit_in, sizes_passed, sizes_numbered}
use Rattle.distance_queries.proofs.Laws.Checked.{goes_past, connecting}
use Rattle.distance_queries.proofs.checked.checked_distances.Goals as goal

pub returns-in_err-check_sizes-clause-number : goal.returns-in_err-check_sizes-clause-number
returns-in_err-check_sizes-clause-number c = handed_stops _ _ _ _ c.from_residual.ensures.1 c.in_err-check_sizes.ensures

pub edges_fit-requires : goal.edges_fit-requires
edges_fit-requires c =
    let sized = sizes_passed 0 _ _ c.in_ok-check_sizes.ensures refl in
    ((vertices_in _ sized.vertices).1, (lists_fit_in _ _ _ sized.lists).1.0)

pub returns-then-not-edges_fit-clause-number : goal.returns-then-not-edges_fit-clause-number
unfolding edge_checks
returns-then-not-edges_fit-clause-number c = search (refusals, goes_past, c.in_ok-check_sizes.ensures, sizes_numbered)

pub lengths_fit-requires : goal.lengths_fit-requires
lengths_fit-requires c =
    let sized = sizes_passed 0 _ _ c.in_ok-check_sizes.ensures refl in
    omega (arith, (lists_fit_in _ _ _ sized.lists).1.1)

pub returns-then-not-lengths_fit-clause-number : goal.returns-then-not-lengths_fit-clause-number
unfolding edge_checks
returns-then-not-lengths_fit-clause-number c = search (refusals, goes_past, c.in_ok-check_sizes.ensures, sizes_numbered)

pub search_start-from-requires : goal.search_start-from-requires
search_start-from-requires c = (vertices_in _ (sizes_passed 0 _ _ c.in_ok-check_sizes.ensures refl).vertices).0

pub distances_from-requires : goal.distances_from-requires
distances_from-requires c =
    let sized = sizes_passed 0 _ _ c.in_ok-check_sizes.ensures refl in
    record {
      formed = record {
        vertices = sized.vertices;
        lists = sized.lists;
        edges = test_held _ _ c.edges_fit.ensures (ap not c.if-not-edges_fit.false);
        lengths = test_held _ _ c.lengths_fit.ensures (ap not c.if-not-lengths_fit.false);
      };
      start_in = c.search_start-from.ensures.vertex;
    }

pub returns-clause-number : goal.returns-clause-number
unfolding edge_checks
returns-clause-number c =
    goes_past _ _ _ (sizes_numbered _ _) c.in_ok-check_sizes.ensures
    (passes _ _ _ _ (test_held _ _ c.edges_fit.ensures (ap not c.if-not-edges_fit.false))
    (passes _ _ _ _ (test_held _ _ c.lengths_fit.ensures (ap not c.if-not-lengths_fit.false))
    (connecting _ _ _ c.distances_from.ensures c.ok_or.ensures.value)))
