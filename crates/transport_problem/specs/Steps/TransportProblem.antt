-- What checks 1 to 7 accept: "patch and paintings accepted, connected and of equal total".
use Rattle.std.specs.Prelude.{ℕ, ◌^◌, ◌≤◌, ◌≡◌, Bool, List, length}
use Rattle.arithmetic.specs.Sum.{sum}
use Rattle.arithmetic.specs.Table.{at}
use Rattle.arithmetic.specs.Refusal.{refusal}
use Rattle.graph.specs.Graph.{Graph}
use Rattle.graph.specs.Steps.Accepted.{Accepted}
use Rattle.graph.specs.Steps.EdgeTree.{EdgeTree}
use Rattle.transport_problem.specs.Checks.{problem_checks}

-- a painting of n vertices with the total t
pub record Painting (n t : ℕ) (amounts : List ℕ) : Type 0 where
  pub size : length amounts ≡ n
  pub total : sum n (at amounts) ≡ t
  pub light : sum n (at amounts) ≤ 2 ^ 24

-- a graph that passed its checks, and two paintings of one total
pub record TransportProblem (g : Graph) (mu nu : List ℕ) : Type 0 where
  pub accepted : Accepted g
  pub total : ℕ
  pub before : Painting g.n total mu
  pub after : Painting g.n total nu

-- k is the number of the checks; if it is 0, the tables hold a spanning tree with root 0
pub record ProblemChecked (g : Graph) (mu nu : List ℕ) (tables : Bool) (k : ℕ) (p s : List ℕ) : Type 0 where
  pub number : k ≡ refusal (problem_checks g mu nu tables)
  pub tree : k ≡ 0 → EdgeTree g 0 p s
