use Prim.Native.Nat.{◌<◌}
use mathlib.Core.Path.{◌≡◌, sym, ◌∙◌}
use native.Mathlib.Omega.{arith}
use Rattle.arithmetic.specs.Table.{at}
use Rattle.decimal_text.proofs.Laws.Wrote.{wrote_met}
use Rattle.preorder.proofs.Laws.Order.{vertex_counts, child_part}
use Rattle.preorder.proofs.Laws.Printing.{child_placed, level_lt, children_room, vertex_done, children_none, child_room, children_child, children_other}
use Rattle.preorder.proofs.+print_children_print_vertex.Goals as goal
use Rattle.preorder.proofs.+print_children_print_vertex.Goals.{print_children-then-is_child, print_children-else-is_child}

pub print_children-loop-c-init : goal.print_children-loop-c-init
print_children-loop-c-init t c = (omega arith, children_none c.requires.0 c.requires.1 c.args.from c.args.out.now)

pub print_children-is_child-requires : goal.print_children-is_child-requires
print_children-is_child-requires t c = omega (arith, c.requires.0.long_parents)

pub print_children-overflow_add-depth : goal.print_children-overflow_add-depth
print_children-overflow_add-depth t c = omega (arith, level_lt c.requires.0.tree c.requires.1, c.requires.0.few)

pub print_children-print_vertex-next-requires : goal.print_children-print_vertex-next-requires
print_children-print_vertex-next-requires t c =
    let a = c.args in
    let q = c.requires.0 in
    let h = c.requires.1 in
    let l = c.loop-c in
    let b : l.c < a.n = c.loop-c-test.true in
    let k = sym c.is_child.ensures ∙ c.if-is_child.true in (
      omega (arith, child_part a.n a.root (at a.parents.now) a.depth a.v l.c b k, c.decreases),
      (q, child_placed q.tree h b k, child_room q h l.c c.requires.2 l.invariant.1 b k),
    )

pub print_children-loop-c-preserved : goal.print_children-loop-c-preserved
print_children-loop-c-preserved t c =
    let q = c.requires.0 in
    let h = c.requires.1 in
    let l = c.loop-c in
    let k = sym c.is_child.ensures in
    let b : l.c < c.args.n = c.loop-c-test.true in (
      omega arith,
      elim c.if-is_child.branch [
        | print_children-then-is_child w ↦
            wrote_met w.out-is w.next-is
            (children_child q h l.c c.requires.2 l.invariant.1 b (k ∙ w.if-is_child.true) w.print_vertex-next.ensures)
        | print_children-else-is_child w ↦
            wrote_met w.out-is w.next-is (children_other q h l.c c.requires.2 l.invariant.1 (k ∙ w.if-is_child.false))
      ],
    )

pub print_children-returns : goal.print_children-returns
print_children-returns t c =
    let e : c.loop-c.c ≡ c.args.n = omega arith in
    rw e at c.loop-c.invariant.1

pub print_vertex-write_line-next-requires : goal.print_vertex-write_line-next-requires
print_vertex-write_line-next-requires t c =
    let a = c.args in
    let q = c.requires.0 in
    let h = c.requires.1 in
    let d = level_lt q.tree h in
    omega (arith, d, h.vertex, q.few, vertex_counts a.n a.root (at a.parents.now) a.depth a.v d, c.requires.2)

pub print_vertex-print_children-requires : goal.print_vertex-print_children-requires
print_vertex-print_children-requires t c =
    let a = c.args in
    let q = c.requires.0 in
    let h = c.requires.1 in (
      omega (arith, vertex_counts a.n a.root (at a.parents.now) a.depth a.v (level_lt q.tree h), c.decreases),
      (q, h, children_room q h c.requires.2 c.write_line-next.ensures),
    )

pub print_vertex-returns : goal.print_vertex-returns
print_vertex-returns t c =
    vertex_done c.requires.0 c.requires.1 c.requires.2 c.write_line-next.ensures c.print_children.ensures
