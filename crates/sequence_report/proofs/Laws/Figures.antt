-- What a report's figures are: the entry's numbers, all images counted, a sum that fits.
use Prim.Native.Nat.{ℕ, ◌+◌, ◌*◌, ◌^◌, ◌≤◌, ◌<◌}
use mathlib.Core.Path.{◌≡◌, sym, ap, ◌∙◌}
use mathlib.Core.Bool.{true}
use mathlib.Core.List.{List}
use native.Mathlib.Omega.{arith}
use lib.ListN.{length}
use borrow.Author.Tests.{le-leb}
use Rattle.arithmetic.specs.Sum.{sum}
use Rattle.arithmetic.proofs.Laws.Sum.{sum_shift}
use Rattle.cost_sheet.specs.Sheet.{cost_sum}
use Rattle.cost_sheet.proofs.Laws.Figures.{all_counted, sum_most}
use Rattle.image.specs.Image.{vertex_count}
use Rattle.host_record.specs.Record.{record_size}
use Rattle.image_sequence.specs.Sequence.{image_count, image_at}
use Rattle.image_answer.specs.ImageAnswer.{answer_refusal}
use Rattle.image_answer.proofs.Laws.Outcome.{number_below}
use Rattle.weight_mover.specs.Run.{run_refusal}
use Rattle.sequence_report.specs.Report.{image_number, image_cost, images_with}
use Rattle.sequence_report.proofs.Laws.Report.{cost_bounded}

-- an image's number is what the entry returns for it, with any buffer that has room for its record
pub entry_number : (s : List ℕ) (i : ℕ) (buffer : List ℕ) → record_size (vertex_count (image_at s i)) ≤ length buffer → image_number s i ≡ run_refusal (image_at s i) buffer
entry_number s i buffer h = ap (answer_refusal (image_at s i)) (sym (le-leb (record_size (vertex_count (image_at s i))) (length buffer) h))

-- the accepted images and those that are refused under each number are all images
pub all-images : (s : List ℕ) → images_with s 0 + sum 23 (λ k. images_with s (1 + k)) ≡ image_count s
all-images s = sym (sum_shift 23 (images_with s)) ∙ all_counted (image_number s) (image_count s) 24 (λ i _. number_below (image_at s i) true)

-- "at most 65,535 images of at most 63 × 65,535 × 2^24 each is below 2^62"
pub sum_below : (s : List ℕ) → image_count s ≤ 65535 → cost_sum (image_count s) (image_number s) (image_cost s) < 2 ^ 62
sum_below s h = omega (arith, sum_most (image_number s) (image_cost s) (image_count s) (63 * (65535 * 2 ^ 24)) (λ i _. cost_bounded s i))
