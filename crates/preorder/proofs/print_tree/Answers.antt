use native.Mathlib.Omega.{arith}
use Rattle.preorder.proofs.Laws.Printing.{root_placed, tree_counts, tree_printed}
use Rattle.preorder.proofs.print_tree.Goals as goal

-- `print_tree` meets its contract: the root's subtree is the tree.
pub print_vertex-requires : goal.print_vertex-requires
print_vertex-requires c =
    let q = c.requires.0 in
    (q, root_placed q, omega (arith, tree_counts q, c.requires.1))

pub returns : goal.returns
returns c = let t = tree_printed c.requires.0 c.print_vertex.ensures in record { size = t.0; text = t.1 }
