-- Document 01, "listing": what the program prints, byte for byte.
use Rattle.std.specs.Prelude.{ℕ, ◌≡◌, true, cond, List, ◌++◌, eqb, length}
use Rattle.arithmetic.specs.Table.{written}
use Rattle.plan_rule.specs.Plan.{moves}
use Rattle.image.specs.Image.{has_tree, vertex_count, root_in, parent_in}
use Rattle.image_answer.specs.ImageAnswer.{answer_refusal, image_plan, image_best_cost, evaluated_cost}
use Rattle.listing_lines.specs.Lines.{line, cost_word, moves_word, best_word, refused_word, plan_lines}

-- "With a tree it prints `cost`, `moves`, then each positive plan entry"
unfoldable pub evaluated_listing : List ℕ → List ℕ
evaluated_listing s =
    line cost_word (evaluated_cost s) ++ (line moves_word (moves (vertex_count s) (image_plan s (root_in s) (parent_in s)))
    ++ plan_lines (image_plan s (root_in s) (parent_in s)) (vertex_count s) (vertex_count s))

-- "Without one it prints `best` and the cost"
abbrev pub best_listing : List ℕ → List ℕ
best_listing s = line best_word (image_best_cost s)

-- what is printed for the image s; "A refusal prints `refused` and the number"
unfoldable pub listing : List ℕ → List ℕ
listing s =
    cond (eqb (answer_refusal s true) 0) (cond (has_tree s) (evaluated_listing s) (best_listing s))
    (line refused_word (answer_refusal s true))

-- the listing of the image s was written into a lent buffer
pub record Listed (s buffer : List ℕ) (size : ℕ) (buffer' : List ℕ) : Type 0 where
  pub buffer_is : buffer' ≡ written 0 (listing s) buffer
  pub size_is : size ≡ length (listing s)
