use mathlib.Core.Path.{refl}
use native.Mathlib.Omega.{arith}
use Rattle.arithmetic.proofs.Laws.Refusal.{goes_on}
use Rattle.refusals.proofs.Laws.Outcome.{handed_some, handed_stops}
use Rattle.graph.proofs.Laws.Accepted.{graph_numbered, tables_answer}
use Rattle.transport_problem.proofs.Laws.TransportProblem.{both_long}
use Rattle.transport_problem.proofs.check.Goals as goal

pub returns-in_err-check : goal.returns-in_err-check
returns-in_err-check c =
    let handed = c.from_residual.ensures.1 in
    record {
      number = handed_stops _ _ _ _ handed (tables_answer _ _ _ _ c.measures_fit-fits.ensures c.in_err-check.ensures.number);
      tree = λ z. absurd (handed_some _ _ handed z);
    }

pub check-requires-2 : goal.check-requires-2
check-requires-2 c =
    let l = both_long _ _ _ _ _ _ c.measures_fit-fits.ensures c.in_ok-check.ensures.number refl in
    (omega (arith, l.0), omega (arith, l.1))

pub returns : goal.returns
returns c = record {
  number = goes_on 0 _ _ _ (graph_numbered _ _) (tables_answer _ _ _ _ c.measures_fit-fits.ensures c.in_ok-check.ensures.number) refl c.check-2.ensures;
  tree = λ _. c.in_ok-check.ensures.tree refl;
}
