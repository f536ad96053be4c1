use mathlib.Core.Path.{refl, sym, ◌∙◌}
use native.Mathlib.Omega.{arith}
use Rattle.arithmetic.proofs.Laws.Refusal.{goes_on}
use Rattle.refusals.proofs.Laws.Outcome.{handed_some, handed_stops}
use Rattle.graph.proofs.Laws.Accepted.{vertices_in}
use Rattle.transport_problem.proofs.Laws.TransportProblem.{problem_accepted, tables_accepted, problem_numbered}
use Rattle.given_tree.proofs.Laws.Given.{parents_in, given_refused}
use Rattle.given_tree.proofs.check.Goals as goal

pub returns-in_err-check : goal.returns-in_err-check
returns-in_err-check c =
    let handed = c.from_residual.ensures.1 in
    given_refused (rw (← c.parents_fit-tables.ensures) (handed_stops _ _ _ _ handed c.in_err-check.ensures.number)) (handed_some _ _ handed)

pub check_tree-requires : goal.check_tree-requires
check_tree-requires c =
    let p = (problem_accepted c.in_ok-check.ensures refl).accepted in
    let l = parents_in _ _ _ (sym c.parents_fit-tables.ensures ∙ tables_accepted c.in_ok-check.ensures refl) in
    let v = vertices_in _ p.vertices in
    record { n_bound = (v.1, (omega arith, omega (arith, c.requires))); graph = (p.lists, p.edges) }

pub returns : goal.returns
returns c = record {
  number = rw (← c.parents_fit-tables.ensures) (goes_on 0 _ _ _ (problem_numbered _ _ _ _) c.in_ok-check.ensures.number refl c.check_tree.ensures.answer);
  lengths = c.check_tree.ensures.table;
  tree = λ _. c.in_ok-check.ensures.tree refl;
}
