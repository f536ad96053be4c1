-- What the sheet tells while the images are gone through.
use Rattle.std.specs.Prelude.{ℕ, List}
use Rattle.cost_sheet.specs.declared.Sheet.{Sheet}
use Rattle.cost_sheet.specs.Steps.Sheet.{Tells}
use Rattle.sequence_report.specs.Report.{image_number, image_cost}

-- the figures of the first i images of s
abbrev pub Told : List ℕ → ℕ → Sheet → Type 0
Told s i t = Tells i (image_number s) (image_cost s) t
