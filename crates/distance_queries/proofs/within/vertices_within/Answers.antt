use Prim.Native.Nat.{◌≤◌}
use mathlib.Core.Path.{sym}
use native.Mathlib.Omega.{arith}
use borrow.Author.Tests.{le-ltb, lt-ltb}
use lib.Dec.{leb}
use Rattle.std.proofs.Common.{rules}
use Rattle.std.proofs.lemmas.Result.{err_from_is_err_and}
use Rattle.arithmetic.specs.Table.{at}
use Rattle.arithmetic.proofs.Laws.Refusal.{refusals, stops}
use Rattle.refusals.proofs.Laws.Outcome.{number_some}
use Rattle.graph.proofs.Laws.Accepted.{vertices_in, graph-passed, graph_numbered}
use Rattle.distance_queries.specs.Within.{within_refusal}
use Rattle.distance_queries.proofs.Laws.Checked.{goes_past}
use Rattle.distance_queries.proofs.Laws.Within.{within_refused, word_found}
use Rattle.distance_queries.proofs.within.vertices_within.Goals as goal

pub returns-in_err-distances : goal.returns-in_err-distances
unfolding within_refusal
returns-in_err-distances c =
    let handed = err_from_is_err_and c.from_residual.result c.from_residual.ensures.1 in
    rw (handed.1, handed.2) (within_refused _ _ _ _ (stops _ _ _ c.in_err-distances.ensures.number (number_some _)) (number_some _))

pub returns-then-start-g : goal.returns-then-start-g
unfolding within_refusal
returns-then-start-g c = within_refused _ _ _ _ (search (refusals, goes_past, c.in_ok-distances.ensures.number, graph_numbered, le-ltb)) (λ z. omega arith)

pub word_of-requires-clause-small : goal.word_of-requires-clause-small
word_of-requires-clause-small c = (vertices_in _ (graph-passed _ _ (sym c.in_ok-distances.ensures.number)).0.vertices).1

pub word_of-requires-clause-callable : goal.word_of-requires-clause-callable
word_of-requires-clause-callable c =
    let few : c.args.g.now.n ≤ 64 = (vertices_in _ (graph-passed _ _ (sym c.in_ok-distances.ensures.number)).0.vertices).1 in
    λ x l. (λ κs p h r. omega arith, λ κs p h r s. omega arith)

pub returns : goal.returns
unfolding within_refusal
returns c =
    record {
      refusal = search (refusals, goes_past, c.in_ok-distances.ensures.number, graph_numbered, lt-ltb);
      mask_is =
          word_found _ _ _ c.in_ok-distances.distances (c.in_ok-distances.ensures.table.each c.if-start-g.false) _
          (c.word_of.ensures (λ v. leb (at c.in_ok-distances.distances v) c.args.reach) (λ x l r p. search rules));
    }
