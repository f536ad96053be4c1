-- Arcs linked by where they start: edge e is the arcs 2e, from its lower end to its upper one, and 2e + 1, back.
use Rattle.std.specs.Prelude.{ℕ, zero, suc, ◌/◌, ◌%◌, ◌≤◌, ◌<◌, ◌≡◌, cond, List, length, eqb}
use Rattle.arithmetic.specs.Table.{at}

-- where arc k starts
unfoldable pub tail : (a b : List ℕ) → ℕ → ℕ
tail a b k = cond (eqb (k % 2) 0) (at a (k / 2)) (at b (k / 2))

-- one more than the number of the last arc below number k that starts at x, 0 if none does
unfoldable pub latest : (ℕ → ℕ) → ℕ → ℕ → ℕ
latest f x zero = 0
latest f x (suc k) = cond (eqb (f k) x) (suc k) (latest f x k)

-- at most 512 edges, their ends below 64
pub record CanLink (a b : List ℕ) : Type 0 where
  pub few : length a ≤ 512
  pub both : length b ≡ length a
  pub ends : (e : ℕ) → e < length a → (at a e < 64) × (at b e < 64)

-- the arcs below number k are linked, f telling where each starts: at each vertex its last arc, at each arc the one before it at its vertex
pub record Linked (f : ℕ → ℕ) (k : ℕ) (last before : List ℕ) : Type 0 where
  pub last_long : 64 ≤ length last
  pub before_long : 1024 ≤ length before
  pub last_is : (x : ℕ) → x < 64 → at last x ≡ latest f x k
  pub before_is : (i : ℕ) → i < k → at before i ≡ latest f (f i) i
