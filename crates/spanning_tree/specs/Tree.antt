-- Document 01, "Trees": what a tree, handed about by value, gives of a vertex.
use Rattle.std.specs.Prelude.{ℕ, Bool, cond, ◌&&◌, List, ltb}
use Rattle.arithmetic.specs.Table.{at}
use Rattle.arithmetic.specs.Mask.{mask}
use Rattle.rooted_tree.specs.Chain.{below, depth}
use Rattle.graph.specs.Checks.{vertices_ok}
use Rattle.tree_checks.specs.Checks.{parents_ok, chains_ok}

-- v is below n, and 1, 8 and 10 would not refuse the tree
unfoldable pub valid : ℕ → ℕ → List ℕ → ℕ → Bool
valid n r parents v = ltb v n && (vertices_ok n && (parents_ok n r (at parents) && chains_ok n r (at parents)))

-- "these are 0, 64 and 0": the depth,
unfoldable pub depth_of : ℕ → ℕ → List ℕ → ℕ → ℕ
depth_of n r parents v = cond (valid n r parents v) (depth (at parents) r n v) 0

-- the parent,
unfoldable pub parent_of : ℕ → ℕ → List ℕ → ℕ → ℕ
parent_of n r parents v = cond (valid n r parents v) (at parents v) 64

-- and the word below (the subtree's mask): "The vertices below x form a 64-bit word, bit i for vertex i"
unfoldable pub subtree_of : ℕ → ℕ → List ℕ → ℕ → ℕ
subtree_of n r parents v = cond (valid n r parents v) (mask n (λ y. below (at parents) n y v)) 0
