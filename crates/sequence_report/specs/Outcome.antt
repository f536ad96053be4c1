-- What a report returns beside the number of a refusal: "A refusal returns the number, all other results 0".
use Rattle.std.specs.Prelude.{ℕ, Result}
use Rattle.std.specs.declared.result.Result.TheVariants.{Ok, Err}
use Rattle.refusals.specs.declared.Refusal.{Refusal}
use Rattle.refusals.specs.Refusals.{or_zero}
use Rattle.sequence_report.specs.declared.figures.Report.{Report}
use Rattle.sequence_report.specs.declared.figures.Totals.{Totals}

abbrev pub accepted_of : Result Totals Refusal → ℕ
accepted_of = or_zero (λ (t : Totals). t.accepted)

abbrev pub sum_of : Result Totals Refusal → ℕ
sum_of = or_zero (λ (t : Totals). t.sum)

abbrev pub greatest_of : Result Totals Refusal → ℕ
greatest_of = or_zero (λ (t : Totals). t.greatest)

abbrev pub first_of : Result Totals Refusal → ℕ
first_of = or_zero (λ (t : Totals). t.first)

-- a report without its counts
abbrev pub totals_of : Result Report Refusal → Result Totals Refusal
totals_of (Ok r) = Ok (record { accepted = r.accepted; sum = r.sum; greatest = r.greatest; first = r.first })
totals_of (Err f) = Err f
