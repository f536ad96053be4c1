-- The gap of two naturals, and the product lemma: two products against the crossed ones.
use Rattle.std.specs.Prelude.{ℕ, ◌+◌, ◌-◌, ◌≤◌, ◌<◌, ◌≡◌, ◌⊎◌}

-- how far a and b are apart
abbrev pub gap : ℕ → ℕ → ℕ
gap a b = (a - b) + (b - a)

-- the difference u - v is l, with the sign of a - b where these differ
abbrev pub Tight : (u v l a b : ℕ) → Type 0
Tight u v l a b = (b < a → u ≡ v + l) × (a < b → v ≡ u + l)

-- the same, and l one way or the other where a and b are equal: more than the document's sign says
abbrev pub Agrees : (u v l a b : ℕ) → Type 0
Agrees u v l a b = ((b ≤ a) × (u ≡ v + l)) ⊎ ((a ≤ b) × (v ≡ u + l))
