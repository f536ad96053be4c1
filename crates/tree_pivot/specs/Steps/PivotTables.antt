-- The steps of a pivot: what is kept of each vertex is brought from the old tree to the new one by walks along paths.
use Rattle.std.specs.Prelude.{◌≡◌, Bool, true, List, ℕ, ◌-◌, ◌^◌, ◌≤◌, ◌<◌, length}
use Rattle.arithmetic.specs.Sum.{sum}
use Rattle.arithmetic.specs.Table.{at}
use Rattle.vertex_set.specs.Steps.Shift.{shifted, Room}
use Rattle.rooted_tree.specs.Chain.{below}
use Rattle.rooted_tree.specs.Steps.Subtotal.{subtotal}
use Rattle.tree_pivot.specs.Steps.Pivot.{Cut, Pivot}
use Rattle.tree_pivot.specs.Steps.PathWalk.{CanWalk, passed, Stored, Handed}

-- ---- one table along a path

-- a tree of at most 64 vertices, a path in it, and a table
pub record CanStore (n r : ℕ) (p : List ℕ) (from stop : ℕ) (t : List ℕ) : Type 0 where
  pub few : n ≤ 64
  pub walk : CanWalk n r (at p) from stop
  pub size : length t ≡ 64

-- the numbers on the path can be raised or lowered by d,
pub record CanShift (n r : ℕ) (p : List ℕ) (from stop : ℕ) (rises : Bool) (d : ℕ) (t : List ℕ) : Type 0 where
  pub store : CanStore n r p from stop t
  pub room : (x : ℕ) → x < n → passed n (at p) from stop x ≡ true → Room 64 rises d (at t x)

-- or taken from a total
pub record CanComplement (n r : ℕ) (p : List ℕ) (a stop total : ℕ) (t : List ℕ) : Type 0 where
  pub store : CanStore n r p a stop t
  pub least : (x : ℕ) → x < n → passed n (at p) a stop x ≡ true → at t x ≤ total

-- the numbers from `from` up to y, and not y's, are raised or lowered by d
abbrev pub PathShifted : ℕ → List ℕ → (from y : ℕ) → Bool → ℕ → (t u : List ℕ) → Type 0
PathShifted n p from y rises d t u = Stored n (at p) from y (λ x k. k ≡ shifted rises d (at t x)) t u

-- from a up to y, and not at y, each vertex has the total less the number of the vertex before it
abbrev pub PathComplemented : ℕ → List ℕ → (a y total : ℕ) → (t u : List ℕ) → Type 0
PathComplemented n p a y total t u = Stored n (at p) a y (λ x k. (e : ℕ) × (Handed n (at p) a (at t) 0 x e × (k ≡ total - e))) t u

-- ---- the subtotals of one mass

-- the table has the total of f below each vertex
abbrev pub Totals : ℕ → (ℕ → ℕ) → (ℕ → ℕ) → List ℕ → Type 0
Totals n p f t = (x : ℕ) → x < n → at t x ≡ subtotal p n f x

-- the subtree of c can be hung by a on b; j is above both sides
pub record CanMove (n r : ℕ) (p : List ℕ) (a b c j : ℕ) (t : List ℕ) : Type 0 where
  pub few : n ≤ 64
  pub cut : Cut n r (at p) a b c
  pub size : length t ≡ 64
  pub j_low : j < n
  pub over_b : below (at p) n b j ≡ true
  pub over_c : below (at p) n c j ≡ true
  pub mass : ℕ → ℕ
  pub light : sum n mass < 2 ^ 64
  pub totals : Totals n (at p) mass t

-- the totals of the old tree have become those of the new one
pub record TotalsMoved (n r : ℕ) (p : List ℕ) (a b c : ℕ) (t u : List ℕ) : Type 0 where
  pub size : length u ≡ length t
  pub totals : (q f : ℕ → ℕ) → Pivot n r (at p) a b c q → Totals n (at p) f t → Totals n q f u
