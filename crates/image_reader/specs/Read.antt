-- The image reader: its refusal number, and its whole outcome.
use Rattle.std.specs.Prelude.{ℕ, ◌≡◌, Bool, cond, ◌&&◌, List, [], length}
use Rattle.arithmetic.specs.Sum.{pick}
use Rattle.arithmetic.specs.Table.{tab, result, written}
use Rattle.arithmetic.specs.Refusal.{refusal}
use Rattle.image.specs.ImageChecks.{image_checks, room_in}
use Rattle.image.specs.Image.{has_tree, vertex_count, edge_count, lower_end, upper_end, edge_length_of, amount, root_in, parent_in}

-- the tables that the reader fills
pub record Lists : Type 0 where
  pub lower : List ℕ
  pub upper : List ℕ
  pub lengths : List ℕ
  pub mu : List ℕ
  pub nu : List ℕ
  pub parents : List ℕ

abbrev pub lists : List ℕ → List ℕ → List ℕ → List ℕ → List ℕ → List ℕ → Lists
lists a b l mu nu ps = record { lower = a; upper = b; lengths = l; mu = mu; nu = nu; parents = ps }

-- "The reader's lists are all answer tables: they may be longer and of unequal length, and the one for parents must hold n even without
-- a tree"
unfoldable pub room_ok : List ℕ → Lists → Bool
room_ok s t =
    room_in (edge_count s) (length t.lower) (length t.upper) (length t.lengths)
    && room_in (vertex_count s) (length t.mu) (length t.nu) (length t.parents)

-- "The image reader stops after 2"
abbrev pub read_refusal : List ℕ → Lists → ℕ
read_refusal s t = refusal (image_checks s (room_ok s t))

-- "it fills edge lists, paintings and parents and returns n, m, root and 1 for a tree. Without a tree the root is 0, that mark is 0, and
-- the parents stay as lent": the refusal number k, what is returned, and the tables as they come back
pub record Read (s : List ℕ) (t : Lists) (k n m root tree : ℕ) (t' : Lists) : Type 0 where
  pub refusal : k ≡ read_refusal s t
  pub n_is : n ≡ result k (vertex_count s)
  pub m_is : m ≡ result k (edge_count s)
  pub root_is : root ≡ result k (pick (has_tree s) (root_in s))
  pub tree_is : tree ≡ result k (pick (has_tree s) 1)
  pub lower_is : t'.lower ≡ written k (tab (edge_count s) (lower_end s)) t.lower
  pub upper_is : t'.upper ≡ written k (tab (edge_count s) (upper_end s)) t.upper
  pub lengths_are : t'.lengths ≡ written k (tab (edge_count s) (edge_length_of s)) t.lengths
  pub mu_is : t'.mu ≡ written k (tab (vertex_count s) (amount s 0)) t.mu
  pub nu_is : t'.nu ≡ written k (tab (vertex_count s) (amount s 1)) t.nu
  pub parents_are : t'.parents ≡ written k (cond (has_tree s) (tab (vertex_count s) (parent_in s)) []) t.parents
