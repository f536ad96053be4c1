-- Checks 1 to 10 of a call that is given a tree: weighing and judging.
use Rattle.std.specs.Prelude.{ℕ, ◌*◌, Bool, ◌&&◌, List, ◌++◌, length, eqb, leb}
use Rattle.arithmetic.specs.Table.{at}
use Rattle.arithmetic.specs.Refusal.{Check, refusal}
use Rattle.graph.specs.Graph.{Graph}
use Rattle.tree_checks.specs.Checks.{tree_checks}
use Rattle.transport_problem.specs.Checks.{problem_checks}

-- what is lent: a painting before, one after, and a tree's root and parents
pub record Given : Type 0 where
  pub mu : List ℕ
  pub nu : List ℕ
  pub root : ℕ
  pub parents : List ℕ

abbrev pub given : List ℕ → List ℕ → ℕ → List ℕ → Given
given mu nu r parents = record { mu = mu; nu = nu; root = r; parents = parents }

-- 2: "parents not n long, or an answer table too short"; `answers` is what a call says of its answer tables,
unfoldable pub parents_long : ℕ → List ℕ → Bool → Bool
parents_long n parents answers = eqb (length parents) n && answers

-- as that they hold two tables of n numbers and one of n × n
unfoldable pub answers_ok : ℕ → ℕ → ℕ → ℕ → Bool
answers_ok n first second entries = leb n first && (leb n second && leb (n * n) entries)

-- 1 to 7, then 8 to 10
abbrev pub given_checks : Graph → Given → Bool → List Check
given_checks g w answers =
    problem_checks g w.mu w.nu (parents_long g.n w.parents answers) ++ tree_checks g w.root (at w.parents)

abbrev pub given_refusal : Graph → Given → Bool → ℕ
given_refusal g w answers = refusal (given_checks g w answers)
