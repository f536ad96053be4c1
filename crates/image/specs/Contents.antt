-- What an image holds: a graph, two paintings and, if there is one, a tree. s is the image's bytes.
use Rattle.std.specs.Prelude.{ℕ, Bool, List, [], Option, is_some}
use Rattle.std.specs.Option.{option_map_or}
use Rattle.std.specs.Borrow.{Bor}
use Rattle.arithmetic.specs.Table.{tab}
use Rattle.graph.specs.Graph.{Graph, graph}
use Rattle.image.specs.Image.{vertex_count, edge_count, has_tree, lower_end, upper_end, edge_length_of, amount, root_in, parent_in}

-- the graph of an image
abbrev pub graph_of_image : List ℕ → Graph
graph_of_image s =
    graph (vertex_count s) (tab (edge_count s) (lower_end s)) (tab (edge_count s) (upper_end s)) (tab (edge_count s) (edge_length_of s))

-- a patch with its paintings; where `tree` is false, root and parents count for nothing
pub record Contents : Type 0 where
  pub graph : Graph
  pub mu : List ℕ
  pub nu : List ℕ
  pub tree : Bool
  pub root : ℕ
  pub parents : List ℕ

abbrev pub contents : Graph → List ℕ → List ℕ → Bool → ℕ → List ℕ → Contents
contents g mu nu tree root ps = record { graph = g; mu = mu; nu = nu; tree = tree; root = root; parents = ps }

-- a tree that is lent: its root and parents, if there is one; without one they are 0 and no list, and count for nothing
abbrev pub root_lent : Option (ℕ × Bor (List ℕ)) → ℕ
root_lent tree = option_map_or (λ t. t.0) tree 0

abbrev pub parents_lent : Option (ℕ × Bor (List ℕ)) → List ℕ
parents_lent tree = option_map_or (λ t. t.1.now) tree []

-- a patch with its paintings and the tree that is lent beside it
abbrev pub contents_lent : Graph → List ℕ → List ℕ → Option (ℕ × Bor (List ℕ)) → Contents
contents_lent g mu nu tree = contents g mu nu (is_some tree) (root_lent tree) (parents_lent tree)

-- what an image holds
abbrev pub contents_of : List ℕ → Contents
contents_of s =
    contents (graph_of_image s) (tab (vertex_count s) (amount s 0)) (tab (vertex_count s) (amount s 1)) (has_tree s) (root_in s)
    (tab (vertex_count s) (parent_in s))
