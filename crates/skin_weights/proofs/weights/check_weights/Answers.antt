use Rattle.std.proofs.Common.{length, arith, le-leb}
use borrow.Author.Tests.{lt-leb}
use Rattle.arithmetic.proofs.Laws.Refusal.{refusals, fails}
use Rattle.skin_weights.specs.Lists.{weights_refusal}
use Rattle.skin_weights.proofs.weights.check_weights.Goals as goal

-- it runs down the list of checks
pub returns-then-weights-amounts : goal.returns-then-weights-amounts
unfolding weights_refusal
returns-then-weights-amounts c =
    fails 2 _ _ (lt-leb (length c.args.amounts.now) (length c.args.weights.now) (omega arith))

pub returns-then-not-amounts_ok : goal.returns-then-not-amounts_ok
returns-then-not-amounts_ok c = unfold weights_refusal in search (refusals, le-leb)

pub returns : goal.returns
returns c = unfold weights_refusal in search (refusals, le-leb)
