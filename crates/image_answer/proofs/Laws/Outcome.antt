-- The outcome of an image: its number, with room for any record, and its cost. How large they are.
use Prim.Native.Nat.{ℕ, ◌*◌, ◌^◌, ◌≤◌, ◌<◌}
use mathlib.Core.Path.{◌≡◌, refl, ◌∙◌}
use mathlib.Core.Bool.{Bool, true, false, cond}
use mathlib.Core.List.{List, [], ◌++◌}
use native.Mathlib.Nat.{mul-le-mul}
use native.Mathlib.Omega.{arith}
use lib.Dec.{leb}
use lib.IntN.{ℤ}
use borrow.Author.Tests.{le-leb}
use Rattle.std.specs.Prelude.{Result, IfOk}
use Rattle.std.specs.declared.result.Result.TheVariants.{Ok, Err}
use Rattle.refusals.specs.declared.Refusal.{Refusal}
use Rattle.refusals.specs.Refusals.{number_of}
use Rattle.image_answer.specs.declared.Answer.{Answer}
use Rattle.arithmetic.specs.Refusal.{refusal}
use Rattle.arithmetic.proofs.Laws.Bools.{case}
use Rattle.arithmetic.proofs.Laws.Refusal.{numbers_below, below-after}
use Rattle.graph.specs.Checks.{vertices_ok, edge_checks}
use Rattle.graph.proofs.Laws.Accepted.{vertices_in}
use Rattle.graph.proofs.Laws.Edge.{edge_length_most}
use Rattle.tree_checks.specs.Checks.{tree_checks}
use Rattle.measures.specs.Checks.{measure_checks}
use Rattle.tree_figures.specs.Figures.{tree_cost}
use Rattle.tree_figures.proofs.Laws.Figure.{tree_cost_most}
use Rattle.duality.specs.BestCost.{best_cost}
use Rattle.duality.proofs.Laws.BestCost.{best_attained}
use Rattle.image.specs.Image.{has_tree, vertex_count, amount, root_in, parent_in}
use Rattle.image.specs.ImageChecks.{image_checks}
use Rattle.image.specs.Contents.{graph_of_image}
use Rattle.host_record.specs.Record.{record_size}
use Rattle.image_answer.specs.ImageAnswer.{answer_refusal, answer_cost}
use Rattle.image_answer.specs.Steps.Answered.{Answered}
use Rattle.image_answer.proofs.Laws.Passed.{Passed, passed}

-- the numbers of an image are below 24, as all that the documents have
pub number_below : (s : List ℕ) (fits : Bool) → answer_refusal s fits < 24
unfolding answer_refusal image_checks edge_checks measure_checks tree_checks numbers_below refusal
number_below s fits =
    let edges = edge_checks (graph_of_image s) in
    let measures = measure_checks (vertex_count s) (amount s 0) (amount s 1) in
    let given = tree_checks (graph_of_image s) (root_in s) (parent_in s) in
    let tree = cond (has_tree s) given [] in
    let last : refusal tree < 24 = case (has_tree s) (λ e. rw e (below-after 24 given [] refl (omega arith))) (λ e. rw e (omega arith)) in
    below-after 24 (image_checks s fits) (edges ++ (measures ++ tree)) refl
    (below-after 24 edges (measures ++ tree) refl (below-after 24 measures tree refl last))

-- a buffer with room for the record of 64 vertices has room for any that is asked for: check 1 comes before it
pub room_enough : (s : List ℕ) (room : ℕ) → record_size 64 ≤ room → answer_refusal s (leb (record_size (vertex_count s)) room) ≡ answer_refusal s true
unfolding answer_refusal image_checks refusal
room_enough s room h =
    case (vertices_ok (vertex_count s))
    (λ e.
    let few = (vertices_in (vertex_count s) e).1 in
    rw (le-leb (record_size (vertex_count s)) room (omega (arith, mul-le-mul few few))))
    (λ e. rw e)

-- "63 × 65,535 × 2^24": the most that an accepted image can cost, as a tree of 64 vertices has 63 edges
pub cost_most : (s : List ℕ) (fits : Bool) → answer_refusal s fits ≡ 0 → answer_cost s ≤ 63 * (65535 * 2 ^ 24)
cost_most s fits h = case (has_tree s) (λ e. rw e (most (root_in s) (parent_in s) (rw e at k.root))) (λ e. rw e (best e))
  where
    k : Passed s fits
    k = passed s fits h

    most : (r : ℕ) (p : ℕ → ℕ) → r < vertex_count s → tree_cost (graph_of_image s) r p (amount s 0) (amount s 1) ≤ 63 * (65535 * 2 ^ 24)
    most r p l =
        omega (
          arith,
          tree_cost_most (graph_of_image s) r p (amount s 0) (amount s 1) 65535 (2 ^ 24) l
              (λ x _. edge_length_most (graph_of_image s) k.accepted.edges k.accepted.lengths x (p x)) k.before k.after,
          k.few,
        )

    best : has_tree s ≡ false → best_cost (graph_of_image s) (amount s 0) (amount s 1) ≤ 63 * (65535 * 2 ^ 24)
    best e =
        let t = best_attained (graph_of_image s) (amount s 0) (amount s 1) k.accepted in
        omega (arith, most t.root t.parents t.spanning.root, t.cost_is)

-- an answer's number and cost, where the room is enough
module _ {s : List ℕ} {room : ℕ} (enough : record_size 64 ≤ room) {potentials potentials' : List ℤ} {entries entries' : List ℕ} {r : Result Answer Refusal}
    (a : Answered s (leb (record_size (vertex_count s)) room) potentials entries r potentials' entries') where
  pub outcome_number : number_of r ≡ answer_refusal s true
  outcome_number = a.refusal ∙ room_enough s room enough

  pub outcome_cost : IfOk r (λ b. b.cost ≡ answer_cost s)
  outcome_cost = of_success r _ a.answer_is
    where
      of_success : (o : Result Answer Refusal) (b : Answer) → IfOk o (λ c. c ≡ b) → IfOk o (λ c. c.cost ≡ b.cost)
      of_success (Ok c) b e = rw e
      of_success (Err f) b e = tt
