-- What edges weigh.
use Rattle.std.specs.Prelude.{ℕ, ◌+◌, ◌*◌, ◌^◌, ◌≤◌, List}
use Rattle.arithmetic.specs.Table.{at}
use Rattle.graph.specs.Graph.{Graph}

-- what an edge of length l weighs: a path of a tree has at most 63 edges, so the lightest is a shortest one, with the fewest edges of those;
-- and every weight is positive, whatever the length
abbrev pub weight_of : ℕ → ℕ
weight_of l = 128 * l + 1

-- stands for "not reached": more than any path of a tree weighs
abbrev pub unreached : ℕ
unreached = 2 ^ 30

-- along edge e, from its end in one list to that in the other, the label rises by at most the weight
abbrev pub Feasible : (from to lengths : List ℕ) → (ℕ → ℕ) → ℕ → Type 0
Feasible from to lengths label e = label (at to e) ≤ label (at from e) + weight_of (at lengths e)

-- the same either way
abbrev pub FeasibleEdge : Graph → (ℕ → ℕ) → ℕ → Type 0
FeasibleEdge g label e = Feasible g.lower g.upper g.lengths label e × Feasible g.upper g.lower g.lengths label e
