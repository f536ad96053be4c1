use mathlib.Core.Path.{refl}
use native.Mathlib.Omega.{arith}
use Rattle.arithmetic.proofs.Laws.Refusal.{goes_on}
use Rattle.refusals.proofs.Laws.Outcome.{handed_some, handed_stops}
use Rattle.graph.proofs.Laws.Accepted.{sizes_passed, sizes_numbered}
use Rattle.graph_checks.proofs.check.Goals as goal

pub returns-in_err-check_sizes : goal.returns-in_err-check_sizes
returns-in_err-check_sizes c =
    let handed = c.from_residual.ensures.1 in
    record { number = handed_stops _ _ _ _ handed c.in_err-check_sizes.ensures; tree = λ z. absurd (handed_some _ _ handed z) }

pub check_edges-requires : goal.check_edges-requires
check_edges-requires c = (sizes_passed 0 _ _ c.in_ok-check_sizes.ensures refl, (omega arith, omega arith))

pub returns : goal.returns
returns c = record {
  number = goes_on 0 _ _ _ (sizes_numbered _ _) c.in_ok-check_sizes.ensures refl c.check_edges.ensures.number;
  tree = c.check_edges.ensures.tree;
}
