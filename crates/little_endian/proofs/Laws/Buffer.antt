-- What loops and writers leave in a lent table or buffer.
use Prim.Native.Nat.{ℕ, ◌≤◌}
use mathlib.Core.Path.{◌≡◌}
use mathlib.Core.List.{List}
use lib.ListN.{length}
use Rattle.little_endian.specs.Steps.Buffer.{placed}

-- a loop has placed i of the n pieces of a text
pub record Placing (from n : ℕ) (text : ℕ → List ℕ) (lent : List ℕ) (i : ℕ) (out : List ℕ) : Type 0 where
  pub within : i ≤ n
  pub long : length out ≡ length lent
  pub done : out ≡ placed from (text i) lent
