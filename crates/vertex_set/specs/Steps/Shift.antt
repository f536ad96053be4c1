-- Numbers of vertices, raised or lowered for all vertices of a word.
use Rattle.std.specs.Prelude.{◌≡◌, Bool, true, false, cond, List, ℕ, ◌+◌, ◌-◌, ◌^◌, ◌≤◌, ◌<◌, length}
use Rattle.arithmetic.specs.Table.{at}
use Rattle.arithmetic.specs.Mask.{mask}
use Rattle.arithmetic.specs.Steps.Mask.{bit}

-- u, raised or lowered by d
abbrev pub shifted : Bool → ℕ → ℕ → ℕ
shifted true d u = u + d
shifted false d u = u - d

-- it is a word of w bits
abbrev pub Room : ℕ → Bool → ℕ → ℕ → Type 0
Room w true d u = u + d < 2 ^ w
Room w false d u = d ≤ u

-- the numbers of a word's vertices can be raised or lowered by d
pub record CanShiftWord (n word : ℕ) (rises : Bool) (d : ℕ) (t : List ℕ) : Type 0 where
  pub few : n ≤ 64
  pub size : length t ≡ 64
  pub set : word ≡ mask n (bit word)
  pub room : (x : ℕ) → x < n → bit word x ≡ true → Room 32 rises d (at t x)

-- the number of x, raised or lowered by d if x is in the word
abbrev pub shifted_within : (word : ℕ) → Bool → ℕ → List ℕ → ℕ → ℕ
shifted_within word rises d t x = cond (bit word x) (shifted rises d (at t x)) (at t x)

-- they are raised or lowered by d
pub record WordShifted (word : ℕ) (rises : Bool) (d : ℕ) (t u : List ℕ) (n : ℕ) : Type 0 where
  pub size : length u ≡ length t
  pub done : (x : ℕ) → x < n → at u x ≡ shifted_within word rises d t x
