use native.Mathlib.Omega.{arith}
use lib.ListN.{length}
use Rattle.std.proofs.lemmas.Result.{err_from_is_err_and}
use Rattle.refusals.proofs.Laws.Outcome.{number_some}
use Rattle.given_tree.proofs.Laws.Given.{given_answers}
use Rattle.tree_page.proofs.Laws.Page.{room_is, page_refused, page-room, figures_asked, printable, page_done}
use Rattle.tree_page.proofs.write_page.Goals as goal

pub returns-in_err-check : goal.returns-in_err-check
returns-in_err-check c =
    let handed = err_from_is_err_and c.from_residual.result c.from_residual.ensures.1 in
    rw (handed.1, handed.2)
    (page_refused c.args.buffer.now (given_answers (room_is c.args.problem.now.graph.n (length c.args.buffer.now)) c.in_err-check.ensures) (number_some _))

pub write_figures-requires : goal.write_figures-requires
write_figures-requires c =
    figures_asked c.args.buffer.now (given_answers (room_is c.args.problem.now.graph.n (length c.args.buffer.now)) c.in_ok-check.ensures) c.new-tree.ensures (omega arith) (omega arith) (omega arith)

pub print_tree-requires : goal.print_tree-requires
print_tree-requires c =
    let checked = given_answers (room_is c.args.problem.now.graph.n (length c.args.buffer.now)) c.in_ok-check.ensures in (
      printable c.args.buffer.now checked c.new-tree.ensures (omega arith) (omega arith) (c.write_figures.ensures _ _ _),
      page-room c.args.buffer.now checked c.new-tree.ensures,
    )

pub returns : goal.returns
returns c =
    page_done c.args.buffer.now (given_answers (room_is c.args.problem.now.graph.n (length c.args.buffer.now)) c.in_ok-check.ensures) c.new-tree.ensures (omega arith) (omega arith)
    (c.write_figures.ensures _ _ _) c.print_tree.ensures.size c.print_tree.ensures.text
