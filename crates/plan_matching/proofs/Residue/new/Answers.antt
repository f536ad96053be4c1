use Rattle.std.proofs.Common.{ltb, rules}
use Rattle.arithmetic.specs.Table.{at}
use Rattle.plan_matching.specs.Steps.Residue.{positive}
use Rattle.plan_matching.proofs.Residue.new.Goals as goal

pub returns : goal.returns
unfolding positive
returns c =
    rw (
      c.word_of.ensures (λ x. ltb 0 (at c.args.surplus x)) (λ x l r p. search rules),
      c.word_of-2.ensures (λ x. ltb 0 (at c.args.deficit x)) (λ x l r p. search rules),
    )
