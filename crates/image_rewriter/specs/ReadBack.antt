-- Document 02, W-203: what the reader gives of an image that holds c.
use Rattle.std.specs.Prelude.{ℕ, ◌≡◌, Bool, cond, ◌&&◌, [], ◌∷◌, length}
use Rattle.arithmetic.specs.Sum.{pick}
use Rattle.arithmetic.specs.Refusal.{check, refusal}
use Rattle.arithmetic.specs.Table.{result, written}
use Rattle.image.specs.ImageChecks.{room_in}
use Rattle.image.specs.Contents.{Contents}
use Rattle.image_reader.specs.Read.{Lists}

-- the reader's lists have room for it
abbrev pub room_for : Contents → Lists → Bool
room_for c t =
    room_in (length c.graph.lower) (length t.lower) (length t.upper) (length t.lengths)
    && room_in c.graph.n (length t.mu) (length t.nu) (length t.parents)

-- the number, which is 2 or 0, what is returned, and the lists: each holds what c has, and keeps its rest
pub record ReadBack (c : Contents) (t : Lists) (k n m root tree : ℕ) (t' : Lists) : Type 0 where
  pub refusal : k ≡ refusal (check 2 (room_for c t) ∷ [])
  pub n_is : n ≡ result k c.graph.n
  pub m_is : m ≡ result k (length c.graph.lower)
  pub root_is : root ≡ result k (pick c.tree c.root)
  pub tree_is : tree ≡ result k (pick c.tree 1)
  pub lower_is : t'.lower ≡ written k c.graph.lower t.lower
  pub upper_is : t'.upper ≡ written k c.graph.upper t.upper
  pub lengths_are : t'.lengths ≡ written k c.graph.lengths t.lengths
  pub mu_is : t'.mu ≡ written k c.mu t.mu
  pub nu_is : t'.nu ≡ written k c.nu t.nu
  pub parents_are : t'.parents ≡ written k (cond c.tree c.parents []) t.parents
