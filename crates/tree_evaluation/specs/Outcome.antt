-- What evaluating returns beside the number of a refusal: "A refusal returns the number, all other results 0".
use Rattle.std.specs.Prelude.{ℕ, Result}
use Rattle.refusals.specs.declared.Refusal.{Refusal}
use Rattle.refusals.specs.Refusals.{or_zero}
use Rattle.tree_evaluation.specs.declared.Evaluation.{Evaluation}

abbrev pub cost_of : Result Evaluation Refusal → ℕ
cost_of = or_zero (λ (e : Evaluation). e.cost)

abbrev pub moves_of : Result Evaluation Refusal → ℕ
moves_of = or_zero (λ (e : Evaluation). e.moves)
