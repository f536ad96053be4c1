-- Document 02, W-201, on some sequences of images.
use Rattle.std.specs.Prelude.{ℕ, Bool, true, false, ◌&&◌, List, [], ◌∷◌, ◌++◌, eqb}
use Rattle.arithmetic.specs.Table.{tab, result}
use Rattle.cost_sheet.specs.Sheet.{cost_sum, greatest_cost, first_greatest}
use Rattle.image_sequence.specs.Sequence.{image_count}
use Rattle.sequence_report.specs.Report.{image_number, image_cost, images_with, report_refusal}
use Rattle.worked_cases.specs.Figures.{sames}
use Rattle.worked_cases.specs.Cases.{image_a, image_b, short}

-- a sequence's bytes, and whether there is room for its counts; the number that the call gives, the counts and the other results
pub record ReportCase : Type 0 where
  pub reel : List ℕ
  pub room : Bool
  pub refusal : ℕ
  pub tally : List ℕ
  pub sum : ℕ
  pub greatest : ℕ
  pub first : ℕ

abbrev pub report_case : List ℕ → Bool → ℕ → List ℕ → (sum greatest first : ℕ) → ReportCase
report_case s room k counts sum greatest first =
    record { reel = s; room = room; refusal = k; tally = counts; sum = sum; greatest = greatest; first = first }

unfoldable pub reports : ReportCase → Bool
reports c =
    eqb k c.refusal
    && (sames eqb (tab 24 (λ i. result k (images_with c.reel i))) c.tally
    && (eqb (result k (cost_sum (image_count c.reel) (image_number c.reel) (image_cost c.reel))) c.sum
    && (eqb (result k (greatest_cost (image_count c.reel) (image_number c.reel) (image_cost c.reel))) c.greatest
    && eqb (result k (first_greatest (image_count c.reel) (image_number c.reel) (image_cost c.reel))) c.first)))
  where
    k : ℕ
    k = report_refusal c.reel c.room

-- no image has any number
abbrev pub no_counts : List ℕ
no_counts = tab 24 (λ _. 0)

-- so many accepted, and so many refused by 11
abbrev pub counts : ℕ → ℕ → List ℕ
counts accepted short =
    accepted ∷ 0 ∷ 0 ∷ 0 ∷ 0 ∷ 0 ∷ 0 ∷ 0 ∷ 0 ∷ 0 ∷ 0 ∷ short ∷ 0 ∷ 0 ∷ 0 ∷ 0 ∷ 0 ∷ 0 ∷ 0 ∷ 0 ∷ 0 ∷ 0 ∷ 0 ∷ 0 ∷ []

-- 35 bytes, B's image without a tree, and A's twice, with a byte between them and one behind
abbrev pub four_images : List ℕ
four_images =
    4 ∷ 0 ∷ 34 ∷ 0 ∷ 0 ∷ 0 ∷ 35 ∷ 0 ∷ 0 ∷ 0 ∷ 69 ∷ 0 ∷ 0 ∷ 0 ∷ 84 ∷ 0 ∷ 0 ∷ 0 ∷ 153 ∷ 0 ∷ 0 ∷ 0 ∷ 85 ∷ 0 ∷ 0 ∷ 0 ∷ 239 ∷ 0 ∷ 0 ∷ 0 ∷ 85 ∷ 0 ∷ 0 ∷ 0
    ∷ (short.image ++ (image_b.image ++ (image_a.image ++ (9 ∷ image_a.image ++ (9 ∷ [])))))

-- the first of two with the greatest cost, behind a refused image; no images; an empty one; refused by 14 without a count, without a directory, for a
-- pair inside the directory, before its forerunner's end and past the bytes; by 2; and by 14 before 2
abbrev pub report_cases : List ReportCase
report_cases =
    report_case four_images true 0 (counts 3 1) 48 22 2
    ∷ report_case (0 ∷ 0 ∷ []) true 0 no_counts 0 0 0
    ∷ report_case (1 ∷ 0 ∷ 10 ∷ 0 ∷ 0 ∷ 0 ∷ 0 ∷ 0 ∷ 0 ∷ 0 ∷ []) true 0 (counts 0 1) 0 0 1
    ∷ report_case (0 ∷ []) true 14 no_counts 0 0 0
    ∷ report_case (1 ∷ 0 ∷ 10 ∷ 0 ∷ 0 ∷ 0 ∷ 0 ∷ 0 ∷ 0 ∷ []) true 14 no_counts 0 0 0
    ∷ report_case (1 ∷ 0 ∷ 9 ∷ 0 ∷ 0 ∷ 0 ∷ 0 ∷ 0 ∷ 0 ∷ 0 ∷ []) true 14 no_counts 0 0 0
    ∷ report_case (2 ∷ 0 ∷ 18 ∷ 0 ∷ 0 ∷ 0 ∷ 2 ∷ 0 ∷ 0 ∷ 0 ∷ 19 ∷ 0 ∷ 0 ∷ 0 ∷ 0 ∷ 0 ∷ 0 ∷ 0 ∷ 9 ∷ 9 ∷ []) true 14 no_counts 0 0 0
    ∷ report_case (1 ∷ 0 ∷ 10 ∷ 0 ∷ 0 ∷ 0 ∷ 1 ∷ 0 ∷ 0 ∷ 0 ∷ []) true 14 no_counts 0 0 0
    ∷ report_case four_images false 2 no_counts 0 0 0
    ∷ report_case (0 ∷ []) false 14 no_counts 0 0 0
    ∷ []
