-- What of an image can be read, and what is returned of it.
use Rattle.std.specs.Prelude.{ℕ, ◌+◌, ◌*◌, ◌≤◌, ◌≡◌, List, length, leb}
use Rattle.arithmetic.specs.Sum.{pick}
use Rattle.image.specs.ImageChecks.{room_in}
use Rattle.image.specs.Image.{vertex_count, edge_count, first_offset, tree_section, offset, extent, has_tree, root_in}

-- k is the least of x, y and z: tables of these lengths have room for n numbers each where k is n or more
pub record Least (k x y z : ℕ) : Type 0 where
  pub tests : (n : ℕ) → leb n k ≡ room_in n x y z

-- what an accepted image holds: few vertices and edges, its header, and each section whole
pub record Held (s : List ℕ) : Type 0 where
  pub vertices_few : vertex_count s ≤ 64
  pub edges_few : edge_count s ≤ 512
  pub header : first_offset s ≤ length s
  pub edges : offset s 0 + 4 * edge_count s ≤ length s
  pub mu : offset s 1 + 4 * vertex_count s ≤ length s
  pub nu : offset s 2 + 4 * vertex_count s ≤ length s
  pub tree : (extent s (tree_section s) ≡ 0 → ⊥) → offset s (tree_section s) + 1 + vertex_count s ≤ length s

-- the figures of an accepted image
pub record Counted (s : List ℕ) (k n m root tree : ℕ) : Type 0 where
  pub refusal : k ≡ 0
  pub n_is : n ≡ vertex_count s
  pub m_is : m ≡ edge_count s
  pub root_is : root ≡ pick (has_tree s) (root_in s)
  pub tree_is : tree ≡ pick (has_tree s) 1
