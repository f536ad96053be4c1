-- A test of vertices that is given as code.
use Rattle.std.specs.Prelude.{◌≡◌, ℕ, ◌<◌, Bool}

-- at the vertices below n each answer, as `post` has it, is f's
abbrev pub Tests : (post : ℕ → Bool → Type 0) → ℕ → (ℕ → Bool) → Type 0
Tests post n f = (x : ℕ) → x < n → (r : Bool) → post x r → r ≡ f x
