-- The pivot: the subtree of c is cut off and hung by its vertex a on b, which reverses the path from a to c.
use Rattle.std.specs.Prelude.{◌≡◌, true, false, ℕ, ◌<◌}
use Rattle.rooted_tree.specs.Chain.{below}
use Rattle.rooted_tree.specs.Steps.Rooted.{Rooted}

-- z is the child of x on the path down to a
pub record Toward (n : ℕ) (p : ℕ → ℕ) (a x z : ℕ) : Type 0 where
  pub low : z < n
  pub from : below p n a z ≡ true
  pub over : p z ≡ x
  pub other : z ≡ x → ⊥

-- p are the parents of a tree with root r. The subtree of c, which is not the root, can be cut off and hung by its vertex a on b, a vertex out of it
pub record Cut (n r : ℕ) (p : ℕ → ℕ) (a b c : ℕ) : Type 0 where
  pub tree : Rooted n r p
  pub a_low : a < n
  pub b_low : b < n
  pub c_low : c < n
  pub c_root : r ≡ c → ⊥
  pub a_in : below p n a c ≡ true
  pub b_out : below p n b c ≡ false

-- q are the parents after that: the path from a up to c is reversed, and every other vertex keeps its parent
pub record Pivot (n r : ℕ) (p : ℕ → ℕ) (a b c : ℕ) (q : ℕ → ℕ) : Type 0 where
  pub cut : Cut n r p a b c
  pub hung : q a ≡ b
  pub reversed : (x : ℕ) → x < n → below p n a x ≡ true → below p n x c ≡ true → (x ≡ a → ⊥) → Toward n p a x (q x)
  pub side : (x : ℕ) → x < n → below p n a x ≡ false → q x ≡ p x
  pub out : (x : ℕ) → x < n → below p n x c ≡ false → q x ≡ p x

-- where a vertex y stands, with what is known there
pub data Place (n : ℕ) (p : ℕ → ℕ) (a c : ℕ) (q : ℕ → ℕ) (y : ℕ) : Type 0 where
  end : y ≡ a → Place n p a c q y
  path : below p n a y ≡ true → below p n y c ≡ true → below p n (q y) c ≡ true → (y ≡ a → ⊥) → Toward n p a y (q y) → Place n p a c q y
  side : below p n a y ≡ false → below p n y c ≡ true → below p n (p y) c ≡ true → q y ≡ p y → Place n p a c q y
  out : below p n y c ≡ false → below p n (p y) c ≡ false → q y ≡ p y → Place n p a c q y
