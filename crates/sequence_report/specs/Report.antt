-- Document 02, W-201: the report on a sequence of images. s is its bytes.
use Rattle.std.specs.Prelude.{ℕ, ◌≡◌, Bool, true, List, [], ◌∷◌}
use Rattle.arithmetic.specs.Refusal.{check, refusal}
use Rattle.arithmetic.specs.Table.{result}
use Rattle.cost_sheet.specs.Sheet.{count_of, cost_sum, greatest_cost, first_greatest}
use Rattle.image_sequence.specs.Sequence.{image_count, image_at, sequence_ok}
use Rattle.image_answer.specs.ImageAnswer.{answer_refusal, answer_cost}

-- the number of image i: that of the entry with room enough for its record, 0 if it is accepted
abbrev pub image_number : List ℕ → ℕ → ℕ
image_number s i = answer_refusal (image_at s i) true

-- "An image with a tree counts with its tree cost, one without with its best cost"
abbrev pub image_cost : List ℕ → ℕ → ℕ
image_cost s i = answer_cost (image_at s i)

-- "how many images were accepted" (the number 0), "how many were refused under each number"
abbrev pub images_with : List ℕ → ℕ → ℕ
images_with s k = count_of (image_count s) (image_number s) k

-- "14 .. comes before everything else"; `room` is what a call adds, a lent table under 2
unfoldable pub report_refusal : List ℕ → Bool → ℕ
report_refusal s room = refusal (check 14 (sequence_ok s) ∷ check 2 room ∷ [])

-- the single results: the refusal number k, "how many images were accepted", "the exact sum of the costs, the greatest cost and the first
-- image that has it"
pub record Reported (s : List ℕ) (room : Bool) (k accepted total greatest first : ℕ) : Type 0 where
  pub refusal : k ≡ report_refusal s room
  pub accepted_are : accepted ≡ result k (images_with s 0)
  pub sum_is : total ≡ result k (cost_sum (image_count s) (image_number s) (image_cost s))
  pub greatest_is : greatest ≡ result k (greatest_cost (image_count s) (image_number s) (image_cost s))
  pub first_is : first ≡ result k (first_greatest (image_count s) (image_number s) (image_cost s))
