-- The answer to an image s, as a Result and in lent tables.
use Rattle.std.specs.Prelude.{ℕ, ◌*◌, ◌≤◌, ◌≡◌, Bool, false, cond, List, ℤ, Result, IfOk}
use Rattle.refusals.specs.declared.Refusal.{Refusal}
use Rattle.refusals.specs.Refusals.{number_of}
use Rattle.image_answer.specs.declared.Answer.{Answer}
use Rattle.arithmetic.specs.Sum.{pick}
use Rattle.arithmetic.specs.Table.{tab, matrix, written}
use Rattle.spanning_tree.specs.TreeValue.{parents_held}
use Rattle.plan_rule.specs.Plan.{moves}
use Rattle.image.specs.Image.{has_tree, vertex_count, root_in, parent_in}
use Rattle.image_answer.specs.ImageAnswer.{answer_refusal, answer_cost, image_plan, evaluated_potential, BestAnswer}

-- "An image with a tree is weighed, one without gets the best answer": the root and the parents of its tree, the potential and the plan; p and
-- u are the parents and the potential of the best answer
abbrev pub answer_root : List ℕ → ℕ
answer_root s = pick (has_tree s) (root_in s)

abbrev pub answer_parent : List ℕ → (ℕ → ℕ) → ℕ → ℕ
answer_parent s p = cond (has_tree s) (parent_in s) p

abbrev pub answer_potential : List ℕ → (ℕ → ℤ) → ℕ → ℤ
answer_potential s u = cond (has_tree s) (evaluated_potential s) u

abbrev pub answer_plan : List ℕ → (ℕ → ℕ) → ℕ → ℕ → ℕ
answer_plan s p = image_plan s (answer_root s) (answer_parent s p)

-- what is returned after a success: a tree, whether it was given, its cost and its plan's moves
abbrev pub success : (n root : ℕ) (parents : List ℕ) (marked : Bool) (cost moved : ℕ) → Answer
success n root parents marked cost moved = record {
  tree = record { n = n; root = root; parents = parents_held n parents };
  given = marked;
  cost = cost;
  moves = moved;
}

-- the whole outcome: what is returned, and the tables as they come back; `fits` says whether the host's buffer has room for the record
pub record Answered (s : List ℕ) (fits : Bool) (potentials : List ℤ) (entries : List ℕ)
    (r : Result Answer Refusal) (potentials' : List ℤ) (entries' : List ℕ) : Type 0 where
  pub refusal : number_of r ≡ answer_refusal s fits
  -- "Which of several best trees comes back is free, and so is the potential between those that meet mission demand 3"
  pub p : ℕ → ℕ
  pub u : ℕ → ℤ
  pub best : answer_refusal s fits ≡ 0 → has_tree s ≡ false → BestAnswer s p u
  -- all else follows from these two
  pub answer_is : IfOk r (λ a. a ≡ success (vertex_count s) (answer_root s) (tab (vertex_count s) (answer_parent s p)) (has_tree s) (answer_cost s)
      (moves (vertex_count s) (answer_plan s p)))
  pub potentials_are : potentials' ≡ written (answer_refusal s fits) (tab (vertex_count s) (answer_potential s u)) potentials
  pub plan_is : entries' ≡ written (answer_refusal s fits) (matrix (vertex_count s) (answer_plan s p)) entries

-- a table of so many places has room for the plan, if check 1 accepts the vertices
abbrev pub Spacious : List ℕ → ℕ → Type 0
Spacious s places = vertex_count s ≤ 64 → vertex_count s * vertex_count s ≤ places
