-- Two vertices compared by their distances.
use Rattle.std.specs.Prelude.{ℕ, ◌≤◌, ◌<◌, List, length, Option, IfSome}

-- v is below 64 and has an amount, and so is the best, if there is one
pub record CanCompare (distances amounts : List ℕ) (best : Option ℕ) (v : ℕ) : Type 0 where
  pub few : v < 64
  pub most : IfSome best (λ x. x < 64)
  pub long : 64 ≤ length distances
  pub listed : v < length amounts
