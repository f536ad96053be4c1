-- What a writer of a text leaves in a lent buffer.
use Rattle.std.specs.Prelude.{◌≡◌, List, ℕ, ◌+◌, length}
use Rattle.little_endian.specs.Steps.Buffer.{placed}

-- the text from place `from` on, and the place behind it
pub record Wrote (from : ℕ) (text lent out : List ℕ) (next : ℕ) : Type 0 where
  pub next_is : next ≡ from + length text
  pub out_is : out ≡ placed from text lent
