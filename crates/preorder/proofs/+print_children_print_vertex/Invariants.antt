-- The cycle of calls of `print_vertex` and `print_children`: the vertices left to print fall. Those of `print_vertex` are the vertices of the subtree; those of
-- `print_children` are fewer by the vertex whose line is printed, and may be those of one child: so each counts twice, and `print_children` one more.
use Prim.Native.Nat.{◌+◌, ◌*◌, ◌≤◌}
use lib.ListN.{length}
use Rattle.arithmetic.specs.Table.{at}
use Rattle.decimal_text.specs.Steps.Wrote.{Wrote}
use Rattle.preorder.specs.Steps.Printing.{figure, subtree_order, children_order, children_page}
use Rattle.preorder.proofs.+print_children_print_vertex.Given as goal

abbrev pub decreases-print_children : goal.decreases-print_children
decreases-print_children l = 2 * length (children_order l.n l.root (at l.parents.now) l.depth l.v l.n) + 1

abbrev pub decreases-print_vertex : goal.decreases-print_vertex
decreases-print_vertex l = 2 * length (subtree_order l.n l.root (at l.parents.now) l.depth l.v)

abbrev pub invariant-print_children-loop-c : goal.invariant-print_children-loop-c
invariant-print_children-loop-c l =
    (l.c ≤ l.n) × Wrote l.from (children_page l.n l.root (at l.parents) (figure l.imbalance) (figure l.potential) l.depth l.v l.c) l.fn.out l.out l.next
