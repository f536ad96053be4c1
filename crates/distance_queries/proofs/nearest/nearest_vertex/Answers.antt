use mathlib.Core.Path.{refl}
use native.Mathlib.Omega.{arith}
use borrow.Author.Tests.{le-ltb, lt-ltb}
use Rattle.std.proofs.lemmas.Result.{err_from_is_err_and}
use Rattle.arithmetic.proofs.Laws.Refusal.{refusals, stops}
use Rattle.refusals.proofs.Laws.Outcome.{number_some}
use Rattle.graph.proofs.Laws.Accepted.{graph_numbered}
use Rattle.measures.proofs.Laws.Totals.{total_above, total_within}
use Rattle.distance_queries.specs.Nearest.{nearest_refusal}
use Rattle.distance_queries.proofs.Laws.Checked.{goes_past}
use Rattle.distance_queries.proofs.Laws.Nearest.{graph_painted, nearest_refused, nearest-found}
use Rattle.distance_queries.proofs.nearest.nearest_vertex.Goals as goal

pub returns-in_err-distances-clause-found : goal.returns-in_err-distances-clause-found
unfolding nearest_refusal
returns-in_err-distances-clause-found c =
    let handed = err_from_is_err_and c.from_residual.result c.from_residual.ensures.1 in
    rw (handed.1, handed.2) (nearest_refused _ _ _ _ (stops _ _ _ c.in_err-distances.ensures.number (number_some _)) (number_some _))

pub total-requires : goal.total-requires
total-requires c = omega (arith, graph_painted _ c.args.amounts.now _ c.in_ok-distances.ensures.number refl)

pub returns-in_err-total-clause-found : goal.returns-in_err-total-clause-found
unfolding nearest_refusal
returns-in_err-total-clause-found c =
    let handed = err_from_is_err_and c.from_residual-in_err-total.result c.from_residual-in_err-total.ensures.1 in
    rw (handed.1, handed.2, c.in_err-total.ensures.above.0) (nearest_refused _ _ _ _ (search (refusals, goes_past, c.in_ok-distances.ensures.number, graph_numbered, total_above _ _ c.in_err-total.ensures.above.1)) (λ z. omega arith))

pub returns-then-start-g-clause-found : goal.returns-then-start-g-clause-found
unfolding nearest_refusal
returns-then-start-g-clause-found c =
    let light = total_within _ _ _ c.in_ok-total.ensures.within.0 c.in_ok-total.ensures.within.1 in
    nearest_refused _ _ _ _ (search (refusals, goes_past, c.in_ok-distances.ensures.number, graph_numbered, light, le-ltb)) (λ z. omega arith)

pub nearest_positive-requires : goal.nearest_positive-requires
nearest_positive-requires c =
    let passed = graph_painted _ c.args.amounts.now _ c.in_ok-distances.ensures.number refl in
    (passed.0, omega (arith, c.in_ok-distances.ensures.table.size), omega (arith, passed.1))

pub returns-clause-found : goal.returns-clause-found
unfolding nearest_refusal
returns-clause-found c =
    let w = c.in_ok-distances.ensures in
    let light = total_within _ _ _ c.in_ok-total.ensures.within.0 c.in_ok-total.ensures.within.1 in
    let few = (graph_painted _ c.args.amounts.now _ w.number refl).0 in
    record {
      refusal = search (refusals, goes_past, c.in_ok-distances.ensures.number, graph_numbered, light, lt-ltb);
      vertex_is =
          nearest-found _ _ c.in_ok-distances.distances c.args.amounts.now few (w.table.each c.if-start-g.false) _
          c.nearest_positive.ensures.value;
    }
