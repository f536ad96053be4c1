-- Documents 01 and 02, "What is refused": the number of each refusal, and what a call returns beside it.
use Rattle.std.specs.Prelude.{ℕ, Result}
use Rattle.std.specs.declared.result.Result.TheVariants.{Ok, Err}
use Rattle.refusals.specs.declared.Refusal.{Refusal}
use Rattle.refusals.specs.declared.Refusal.TheVariants.{Vertices, Tables, Edges, Lengths, Unconnected, Total, UnequalTotals, Parents, TreeEdges, Chains, ImageSize, Sections, Layout, Sequence, Weights, Grains, Start}

-- the table's number of a refusal
abbrev pub number : Refusal → ℕ
number Vertices = 1
number Tables = 2
number Edges = 3
number Lengths = 4
number Unconnected = 5
number Total = 6
number UnequalTotals = 7
number Parents = 8
number TreeEdges = 9
number Chains = 10
number ImageSize = 11
number Sections = 12
number Layout = 13
number Sequence = 14
number Weights = 15
number Grains = 16
number Start = 17

-- "A success returns number 0 with its results. A refusal returns the number": what stands for the number of a call's result
abbrev pub number_of : {A : Type 0} → Result A Refusal → ℕ
number_of (Ok v) = 0
number_of (Err r) = number r

-- "all other results 0": a number among a call's results, after a refusal 0
abbrev pub or_zero : {A : Type 0} → (A → ℕ) → Result A Refusal → ℕ
or_zero f (Ok v) = f v
or_zero f (Err r) = 0
