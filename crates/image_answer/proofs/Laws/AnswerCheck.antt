-- The refusal number of an image: what the reader's number says of it, and that of a call on what was read.
use Prim.Native.Nat.{ℕ}
use mathlib.Core.Path.{◌≡◌, sym, ◌∙◌}
use mathlib.Core.Bool.{Bool, true, false, and-false}
use mathlib.Core.List.{List, ◌++◌, append_assoc, append-nil}
use lib.IntN.{ℤ}
use lib.ListN.{length}
use borrow.Author.Tests.{eq-eqb}
use Rattle.arithmetic.specs.Table.{at, tab}
use Rattle.arithmetic.specs.Refusal.{Check, refusal}
use Rattle.arithmetic.proofs.Laws.Table.{length-tab, tab-at}
use Rattle.arithmetic.proofs.Laws.Refusal.{stops, past_all, same_after}
use Rattle.graph.specs.Checks.{size_checks, edge_checks, graph_checks}
use Rattle.graph.proofs.Laws.Accepted.{sizes_numbered}
use Rattle.measures.specs.Checks.{measure_checks}
use Rattle.given_tree.specs.Given.{Given, given, parents_long, answers_ok}
use Rattle.tree_evaluation.specs.Evaluate.{evaluate_refusal}
use Rattle.duality.proofs.Laws.Agree.{Same, measures_same, tree_same}
use Rattle.transport_problem.specs.Checks.{measures_long}
use Rattle.optimal_transport.specs.Solve.{solve_refusal}
use Rattle.image.specs.Image.{has_tree, vertex_count, amount, root_in, parent_in}
use Rattle.image.specs.ImageChecks.{image_checks}
use Rattle.image.proofs.Laws.ImageCheck.{WellFormed, images_numbered, image_passes, lists_read}
use Rattle.image_reader.specs.Read.{Lists, read_refusal}
use Rattle.image_reader.proofs.Laws.Tables.{Wide, refused_anyway}
use Rattle.image.specs.Contents.{graph_of_image}
use Rattle.image_answer.specs.ImageAnswer.{answer_refusal}

-- an image that is not read is not answered
pub read_refused : (s : List ℕ) (fits : Bool) {t : Lists} {k : ℕ} → Wide t → k ≡ read_refusal s t → (k ≡ 0 → ⊥) → k ≡ answer_refusal s fits
unfolding answer_refusal
read_refused s fits {t} {k} w h n = stops k (image_checks s fits) _ (refused_anyway s fits w h n) n

module _ {s : List ℕ} (a : WellFormed s) where
  -- "a shorter buffer is refused 2"
  pub short_refused : 2 ≡ answer_refusal s false
  unfolding answer_refusal image_checks refusal
  short_refused = rw (a.size, a.sections, a.layout, a.vertices, and-false)

  size_passes : refusal (size_checks (graph_of_image s) true) ≡ 0
  unfolding size_checks refusal
  size_passes = rw (a.vertices, lists_read s a.edges)

  -- an image that was read goes on to the checks of its graph after 2, and so does a call on what was read
  goes_on_alike : (ds : List Check) → refusal (graph_checks (graph_of_image s) true ++ ds) ≡ refusal (image_checks s true ++ (edge_checks (graph_of_image s) ++ ds))
  goes_on_alike ds =
      rw append_assoc
      (past_all (size_checks (graph_of_image s) true) (edge_checks (graph_of_image s) ++ ds) (sizes_numbered (graph_of_image s) true) size_passes
      ∙ sym (past_all (image_checks s true) (edge_checks (graph_of_image s) ++ ds) (images_numbered s true) (image_passes a)))

-- what was read of the vertices, as a call takes it
abbrev pub mus : List ℕ → List ℕ
mus s = tab (vertex_count s) (amount s 0)

abbrev pub nus : List ℕ → List ℕ
nus s = tab (vertex_count s) (amount s 1)

abbrev pub tree_lent : List ℕ → Given
tree_lent s = given (mus s) (nus s) (root_in s) (tab (vertex_count s) (parent_in s))

pub before : (s : List ℕ) → Same (vertex_count s) (at (mus s)) (amount s 0)
before s = tab-at (vertex_count s) (amount s 0) 0

pub after : (s : List ℕ) → Same (vertex_count s) (at (nus s)) (amount s 1)
after s = tab-at (vertex_count s) (amount s 1) 0

pub up : (s : List ℕ) → Same (vertex_count s) (at (tab (vertex_count s) (parent_in s))) (parent_in s)
up s = tab-at (vertex_count s) (parent_in s) 0

-- a call on what was read, with room for its answers, is refused as the image is
module _ {s : List ℕ} (a : WellFormed s) where
  pub evaluated_number : has_tree s ≡ true → (imbalances potentials : List ℤ) (entries : List ℕ)
      → answers_ok (vertex_count s) (length imbalances) (length potentials) (length entries) ≡ true
      → evaluate_refusal (graph_of_image s) (tree_lent s) imbalances potentials entries ≡ answer_refusal s true
  unfolding evaluate_refusal answer_refusal parents_long measures_long
  evaluated_number h imbalances potentials entries room =
      rw (
        eq-eqb _ _ (length-tab (vertex_count s) (amount s 0)),
        eq-eqb _ _ (length-tab (vertex_count s) (amount s 1)),
        eq-eqb _ _ (length-tab (vertex_count s) (parent_in s)),
        room,
        append_assoc,
      )
      (goes_on_alike a _
      ∙ rw (h, measures_same (vertex_count s) (before s) (after s))
      (same_after (image_checks s true) _ _ (same_after (edge_checks (graph_of_image s)) _ _ (same_after (measure_checks (vertex_count s) (amount s 0) (amount s 1)) _ _
      (tree_same (graph_of_image s) (root_in s) (up s))))))

  pub solved_number : has_tree s ≡ false → (parents : List ℕ) (potentials : List ℤ) (entries : List ℕ)
      → answers_ok (vertex_count s) (length parents) (length potentials) (length entries) ≡ true
      → solve_refusal (graph_of_image s) (mus s) (nus s) parents potentials entries ≡ answer_refusal s true
  unfolding solve_refusal answer_refusal measures_long
  solved_number h parents potentials entries room =
      rw (
        eq-eqb _ _ (length-tab (vertex_count s) (amount s 0)),
        eq-eqb _ _ (length-tab (vertex_count s) (amount s 1)),
        room,
      )
      (goes_on_alike a _ ∙ rw (h, measures_same (vertex_count s) (before s) (after s), append-nil))
