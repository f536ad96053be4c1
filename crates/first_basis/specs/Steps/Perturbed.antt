-- The masses that the search balances: scaled by 64, with one grain more at each vertex but 0, where they all go. No subtree balances, and
-- a subtree's surplus has the sign of the true one, or the true one is 0.
use Rattle.std.specs.Prelude.{ℕ, ◌+◌, ◌-◌, ◌*◌, cond, eqb}

-- scaled masses, with `first` grains at 0 and `rest` elsewhere
abbrev pub perturbed : (first rest : ℕ) → (ℕ → ℕ) → ℕ → ℕ
perturbed first rest m y = 64 * m y + cond (eqb y 0) first rest

abbrev pub supply_of : (ℕ → ℕ) → ℕ → ℕ
supply_of = perturbed 0 1

abbrev pub demand_of : ℕ → (ℕ → ℕ) → ℕ → ℕ
demand_of n = perturbed (n - 1) 0
