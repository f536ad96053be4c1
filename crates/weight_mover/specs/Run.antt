-- The exported entry: its refusal number, and its whole outcome. s is the image's bytes.
use Rattle.std.specs.Prelude.{ℕ, ◌≡◌, false, cond, List, length, leb, ℤ}
use Rattle.arithmetic.specs.Table.{at, matrix, written}
use Rattle.plan_rule.specs.Plan.{moves}
use Rattle.image.specs.Image.{has_tree, vertex_count, root_in, parent_in}
use Rattle.host_record.specs.Record.{record_bytes, record_size}
use Rattle.image_answer.specs.ImageAnswer.{answer_refusal, image_plan, evaluated_cost, evaluated_potential, image_best_cost, BestAnswer}

-- "a shorter buffer is refused 2"
abbrev pub run_refusal : List ℕ → List ℕ → ℕ
run_refusal s buffer = answer_refusal s (leb (record_size (vertex_count s)) (length buffer))

-- entry c of a plan's table
abbrev pub entry_of : ℕ → (ℕ → ℕ → ℕ) → ℕ → ℕ
entry_of n t c = at (matrix n t) c

-- the record of an image's plan from a tree with its root and parents
abbrev pub plan_record : List ℕ → ℕ → ℕ → (ℕ → ℕ) → (ℕ → ℤ) → List ℕ
plan_record s cost root parent u =
    record_bytes (vertex_count s) cost (moves (vertex_count s) (image_plan s root parent)) root parent u
    (entry_of (vertex_count s) (image_plan s root parent))

-- the record of an image with a tree
unfoldable pub evaluated_record : List ℕ → List ℕ
evaluated_record s = plan_record s (evaluated_cost s) (root_in s) (parent_in s) (evaluated_potential s)

-- the record of a best answer
abbrev pub best_record : List ℕ → (ℕ → ℕ) → (ℕ → ℤ) → List ℕ
best_record s p u = plan_record s (image_best_cost s) 0 p u

-- "An image with a tree is weighed, one without gets the best answer"
abbrev pub answer_record : List ℕ → (ℕ → ℕ) → (ℕ → ℤ) → List ℕ
answer_record s p u = cond (has_tree s) (evaluated_record s) (best_record s p u)

-- the whole outcome: the refusal number k, and the buffer as it comes back
pub record Ran (s buffer : List ℕ) (k : ℕ) (buffer' : List ℕ) : Type 0 where
  pub refusal : k ≡ run_refusal s buffer
  -- "Which of several best trees comes back is free, and so is the potential between those that meet mission demand 3"
  pub p : ℕ → ℕ
  pub u : ℕ → ℤ
  pub best : k ≡ 0 → has_tree s ≡ false → BestAnswer s p u
  -- all else follows from these two
  pub buffer_is : buffer' ≡ written k (answer_record s p u) buffer
