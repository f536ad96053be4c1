-- Sums on a tree of n vertices: by falling depth, and by the words of the vertices.
use Rattle.std.specs.Prelude.{◌≡◌, List, ℕ, ◌+◌, ◌^◌, ◌≤◌, ◌<◌, length}
use Rattle.arithmetic.specs.Sum.{pick, sum}
use Rattle.arithmetic.specs.Table.{at}
use Rattle.arithmetic.specs.Steps.Mask.{bit}
use Rattle.rooted_tree.specs.Chain.{depth}
use Rattle.rooted_tree.specs.Steps.Rooted.{Rooted}

-- n masses whose total fits
pub record Light (n : ℕ) (masses : List ℕ) : Type 0 where
  pub long : n ≤ length masses
  pub total : sum n (at masses) < 2 ^ 64

-- the depths of a tree with the parents p
pub record Layered (n : ℕ) (p : ℕ → ℕ) (depths : List ℕ) : Type 0 where
  pub long : n ≤ length depths
  pub root : ℕ
  pub tree : Rooted n root p
  pub are : (x : ℕ) → x < n → at depths x ≡ depth p root n x

-- v over the vertices whose words hold y
abbrev pub holder_sum : ℕ → (words v : ℕ → ℕ) → ℕ → ℕ
holder_sum n words v y = sum n (λ x. pick (bit (words x) y) (v x))

-- what is raised and what is lowered at each vertex, one of them 0; neither total leaves the words
pub record Slopes (n ground : ℕ) (rising falling : List ℕ) : Type 0 where
  pub long_rising : n ≤ length rising
  pub long_falling : n ≤ length falling
  pub apart : (x : ℕ) → x < n → 0 < at rising x → at falling x ≡ 0
  pub high : ground + sum n (at rising) < 2 ^ 32
  pub deep : sum n (at falling) ≤ ground

-- the ground, and the u of the vertices whose words hold y, less their v
abbrev pub Heights : (n ground : ℕ) (words u v h : ℕ → ℕ) → Type 0
Heights n ground words u v h = (y : ℕ) → y < n → h y + holder_sum n words v y ≡ ground + holder_sum n words u y

-- tables for n masks and two masses of n subtrees
pub record SubtreeRoom (n : ℕ) (masks supply demand : List ℕ) : Type 0 where
  pub masks_long : n ≤ length masks
  pub supply_long : n ≤ length supply
  pub demand_long : n ≤ length demand
