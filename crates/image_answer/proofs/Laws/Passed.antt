-- What follows from an image that is not refused.
use Prim.Native.Nat.{ℕ, ◌^◌, ◌≤◌, ◌<◌}
use mathlib.Core.Path.{◌≡◌, refl}
use mathlib.Core.Bool.{Bool, true}
use mathlib.Core.List.{List}
use Rattle.arithmetic.specs.Sum.{sum}
use Rattle.arithmetic.proofs.Laws.Bools.{case, and_l, and_r}
use Rattle.arithmetic.proofs.Laws.Refusal.{test_of, numbered, every_holds, both_pass}
use Rattle.graph.specs.Checks.{edge_checks}
use Rattle.graph.specs.Steps.Accepted.{Accepted}
use Rattle.graph.proofs.Laws.Accepted.{vertices_in}
use Rattle.tree_checks.specs.Checks.{tree_checks}
use Rattle.measures.specs.Checks.{total_ok, measure_checks}
use Rattle.measures.proofs.Laws.Totals.{total_in, equal_in}
use Rattle.duality.proofs.Laws.Agree.{parents_into}
use Rattle.image.specs.Image.{has_tree, vertex_count, amount, root_in, parent_in}
use Rattle.image.specs.ImageChecks.{image_checks}
use Rattle.image.proofs.Laws.ImageCheck.{well_formed, images_numbered, lists_read}
use Rattle.image.specs.Contents.{graph_of_image}
use Rattle.image_answer.specs.ImageAnswer.{answer_refusal}
use Rattle.image_answer.specs.Steps.Answered.{answer_root}

pub record Passed (s : List ℕ) (fits : Bool) : Type 0 where
  pub fitting : fits ≡ true
  pub accepted : Accepted (graph_of_image s)
  pub few : vertex_count s ≤ 64
  pub before : sum (vertex_count s) (amount s 0) ≤ 2 ^ 24
  pub after : sum (vertex_count s) (amount s 1) ≤ 2 ^ 24
  pub same : sum (vertex_count s) (amount s 0) ≡ sum (vertex_count s) (amount s 1)
  -- check 8
  pub root : answer_root s < vertex_count s
  pub parents : has_tree s ≡ true → (x : ℕ) → x < vertex_count s → parent_in s x < vertex_count s

pub passed : (s : List ℕ) (fits : Bool) → answer_refusal s fits ≡ 0 → Passed s fits
unfolding answer_refusal edge_checks measure_checks tree_checks test_of numbered
passed s fits h =
    let image = both_pass (image_checks s fits) _ (images_numbered s fits) h in
    let read = well_formed s fits image.0 in
    let graph = both_pass (edge_checks (graph_of_image s)) _ refl image.1 in
    let k = every_holds (edge_checks (graph_of_image s)) refl graph.0 in
    let measures = both_pass (measure_checks (vertex_count s) (amount s 0) (amount s 1)) _ refl graph.1 in
    let t = every_holds (measure_checks (vertex_count s) (amount s 0) (amount s 1)) refl measures.0 in
    let v = vertices_in (vertex_count s) read.0.vertices in
    let tree : has_tree s ≡ true → (root_in s < vertex_count s) × ((x : ℕ) → x < vertex_count s → parent_in s x < vertex_count s)
    = λ e.
    let eight = every_holds (tree_checks (graph_of_image s) (root_in s) (parent_in s)) refl (rw e at measures.1) 8 in
    parents_into (graph_of_image s) (root_in s) (λ x l. refl) eight in
    record {
      fitting = read.1;
      accepted = record { vertices = read.0.vertices; lists = lists_read s read.0.edges; edges = k 3; lengths = k 4; connected = k 5 };
      few = v.1;
      before = total_in (vertex_count s) (amount s 0) (and_l (total_ok (vertex_count s) (amount s 0)) _ (t 6));
      after = total_in (vertex_count s) (amount s 1) (and_r (total_ok (vertex_count s) (amount s 0)) _ (t 6));
      same = equal_in (vertex_count s) (amount s 0) (amount s 1) (t 7);
      root = case (has_tree s) (λ e. rw e (tree e).0) (λ e. rw e v.0);
      parents = λ e. (tree e).1;
    }
