use mathlib.Core.Path.{ap, ◌∙◌}
use Prim.Native.Nat.{ℕ}
use lib.ListN.{length}
use native.Mathlib.Omega.{arith}
use Rattle.arithmetic.specs.Table.{written}
use Rattle.listing_lines.specs.Lines.{line, refused_word}
use Rattle.image_answer.proofs.Laws.Answer.{answer_few}
use Rattle.listing.proofs.Laws.Listed.{refused_listed, best_listed, evaluated_listed}
use Rattle.listing.proofs.write_listing.Goals as goal

-- `write_listing` meets its contract.
pub returns-in-Err : goal.returns-in-Err
returns-in-Err c =
    let k = c.number.ensures.0 in
    refused_listed c.in-Err.refusal c.in-Err.ensures
    (c.write_refused.ensures.text ∙ ap (λ (x : ℕ). written 0 (line refused_word x) c.args.out.now) k)
    (c.write_refused.ensures.size ∙ ap (λ (x : ℕ). length (line refused_word x)) k)

pub write_evaluated-requires : goal.write_evaluated-requires
write_evaluated-requires c =
    let few = answer_few c.in-Ok.ensures in (few.0, omega arith, omega arith)

pub returns-then-found : goal.returns-then-found
returns-then-found c =
    evaluated_listed c.in-Ok.ensures c.if-found.true c.write_evaluated.ensures.text c.write_evaluated.ensures.size

pub returns : goal.returns
returns c =
    best_listed c.in-Ok.ensures c.if-found.false c.write_best.ensures.text c.write_best.ensures.size
