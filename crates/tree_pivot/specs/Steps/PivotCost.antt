-- A pivot at an edge that the potential violates lowers the cost.
use Rattle.std.specs.Prelude.{◌≡◌, true, false, ℕ, ◌+◌, ◌≤◌, ◌<◌}
use Rattle.arithmetic.specs.Sum.{sum}
use Rattle.arithmetic.specs.Steps.Product.{Agrees}
use Rattle.rooted_tree.specs.Chain.{below}
use Rattle.rooted_tree.specs.Steps.Subtotal.{subtotal}

-- U is the potential of the tree for the masses m and v, and no subtree is balanced
pub record Potential (n r : ℕ) (p : ℕ → ℕ) (len : ℕ → ℕ → ℕ) (m v U : ℕ → ℕ) : Type 0 where
  pub same : sum n m ≡ sum n v
  pub nonzero : (x : ℕ) → x < n → (x ≡ r → ⊥) → subtotal p n m x ≡ subtotal p n v x → ⊥
  pub agrees : (x : ℕ) → x < n → (x ≡ r → ⊥) → Agrees (U x) (U (p x)) (len x (p x)) (subtotal p n m x) (subtotal p n v x)

-- x is above a and not above b, and the flow more x - less x goes up from it
pub record Upward (n : ℕ) (p more less : ℕ → ℕ) (a b x : ℕ) : Type 0 where
  pub low : x < n
  pub on : below p n a x ≡ true
  pub off : below p n b x ≡ false
  pub flow : less x < more x

-- an edge from a to b closes a cycle with paths of the tree: c is on a's side of it, with the least flow against it of both sides
pub record Leaving (n : ℕ) (p more less : ℕ → ℕ) (a b c : ℕ) : Type 0 where
  pub upward : Upward n p more less a b c
  pub least : (x : ℕ) → Upward n p more less a b x → more c + less x ≤ more x + less c
  pub least' : (x : ℕ) → Upward n p less more b a x → more c + more x ≤ less x + less c
