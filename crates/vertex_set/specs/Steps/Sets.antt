-- Tables of words, and of depths, which part the vertices into layers.
use Rattle.std.specs.Prelude.{◌≡◌, List, ℕ, ◌≤◌, ◌<◌, length}
use Rattle.arithmetic.specs.Table.{at}
use Rattle.arithmetic.specs.Mask.{mask}
use Rattle.arithmetic.specs.Steps.Mask.{bit}

-- sets of vertices below n, as words
pub record VertexSets (n : ℕ) (words : List ℕ) : Type 0 where
  pub long : n ≤ length words
  pub each : (x : ℕ) → x < n → at words x ≡ mask n (bit (at words x))

-- numbers of at most n, as depths are
pub record Depths (n : ℕ) (depths : List ℕ) : Type 0 where
  pub long : n ≤ length depths
  pub each : (x : ℕ) → x < n → at depths x ≤ n
