use Rattle.std.proofs.Common.{length, arith, le-leb}
use borrow.Author.Tests.{lt-leb}
use Rattle.arithmetic.proofs.Laws.Refusal.{refusals, fails}
use Rattle.skin_weights.specs.Lists.{amounts_refusal}
use Rattle.skin_weights.proofs.amounts.check_amounts.Goals as goal

-- it runs down the list of checks
pub returns-then-amounts-weights : goal.returns-then-amounts-weights
unfolding amounts_refusal
returns-then-amounts-weights c =
    fails 2 _ _ (lt-leb (length c.args.weights.now) (length c.args.amounts.now) (omega arith))

pub returns-then-not-weights_ok : goal.returns-then-not-weights_ok
returns-then-not-weights_ok c = unfold amounts_refusal in search (refusals, le-leb)

pub returns-then-not-grains_ok : goal.returns-then-not-grains_ok
returns-then-not-grains_ok c = unfold amounts_refusal in search (refusals, le-leb)

pub returns : goal.returns
returns c = unfold amounts_refusal in search (refusals, le-leb)
