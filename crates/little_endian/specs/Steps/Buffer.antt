-- What loops and writers leave in a lent table or buffer.
use Rattle.std.specs.Prelude.{ℕ, ◌+◌, ◌*◌, ◌≤◌, ◌<◌, List, ◌++◌, length, take, drop}

-- `count` fields of `size` bytes, one in every `step` bytes from place `from` on, lie within `long` bytes
abbrev pub Inside : (from step size count long : ℕ) → Type 0
Inside from step size count long = (e : ℕ) → e < count → from + step * e + size ≤ long

-- `lent` with `text` in it, from place `from` on
unfoldable pub placed : ℕ → List ℕ → List ℕ → List ℕ
placed from text lent = take from lent ++ text ++ drop (from + length text) lent
