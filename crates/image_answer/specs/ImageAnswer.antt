-- The answer to an image: which checks it passes, and what it is answered. s is the image's bytes.
use Rattle.std.specs.Prelude.{ℕ, Bool, cond, List, [], ◌++◌, ℤ}
use Rattle.arithmetic.specs.Refusal.{Check, refusal}
use Rattle.graph.specs.Checks.{edge_checks}
use Rattle.tree_checks.specs.Checks.{tree_checks}
use Rattle.measures.specs.Checks.{measure_checks}
use Rattle.plan_rule.specs.Plan.{plan}
use Rattle.tree_figures.specs.Figures.{potential, tree_cost}
use Rattle.duality.specs.Best.{Best}
use Rattle.duality.specs.BestCost.{best_cost}
use Rattle.image.specs.Image.{has_tree, vertex_count, amount, root_in, parent_in}
use Rattle.image.specs.ImageChecks.{image_checks}
use Rattle.image.specs.Contents.{graph_of_image}

-- "An image with a tree is weighed, one without gets the best answer": the checks of the one or the other; `room` is what is said of the
-- buffer under 2
abbrev pub answer_checks : List ℕ → Bool → List Check
answer_checks s room =
    image_checks s room ++ (edge_checks (graph_of_image s)
    ++ (measure_checks (vertex_count s) (amount s 0) (amount s 1)
    ++ cond (has_tree s) (tree_checks (graph_of_image s) (root_in s) (parent_in s)) []))

unfoldable pub answer_refusal : List ℕ → Bool → ℕ
answer_refusal s room = refusal (answer_checks s room)

-- the plan by the rule, from a tree with its root and parents
abbrev pub image_plan : List ℕ → ℕ → (ℕ → ℕ) → ℕ → ℕ → ℕ
image_plan s root parent = plan (vertex_count s) root parent (amount s 0) (amount s 1)

-- "weighed": the cost and the potential of the tree of an image
abbrev pub evaluated_cost : List ℕ → ℕ
evaluated_cost s = tree_cost (graph_of_image s) (root_in s) (parent_in s) (amount s 0) (amount s 1)

abbrev pub evaluated_potential : List ℕ → ℕ → ℤ
evaluated_potential s = potential (graph_of_image s) (root_in s) (parent_in s) (amount s 0) (amount s 1)

-- the best cost of an image
abbrev pub image_best_cost : List ℕ → ℕ
image_best_cost s = best_cost (graph_of_image s) (amount s 0) (amount s 1)

-- the cost that an image is answered: that of its tree, or the best cost
abbrev pub answer_cost : List ℕ → ℕ
answer_cost s = cond (has_tree s) (evaluated_cost s) (image_best_cost s)

-- demand 3 of a tree with root 0 and the parents p, its plan, a potential u and the best cost
abbrev pub BestAnswer : List ℕ → (ℕ → ℕ) → (ℕ → ℤ) → Type 0
BestAnswer s p u = Best (graph_of_image s) (amount s 0) (amount s 1) p (image_plan s 0 p) u (image_best_cost s)
