use Prim.Native.Nat.{ℕ}
use lib.ListN.{length-replicate, get_or-replicate}
use Rattle.subtree_sums.proofs.Laws.Heights.{tilting_none, tilting_room, tilting_more}
use Rattle.subtree_sums.proofs.word_heights.Goals as goal

pub loop-x-init : goal.loop-x-init
loop-x-init c =
    tilting_none _ _ _ c.requires.n_bound.0 (length-replicate {A = ℕ} 64 c.args.ground) (λ y l. get_or-replicate 64 y c.args.ground 0 l)

pub shift_word-requires : goal.shift_word-requires
shift_word-requires c =
    tilting_room c.requires.slopes c.loop-x.invariant c.loop-x-test.true c.requires.n_bound.0 (c.requires.n_bound.1.each _ c.loop-x-test.true)

pub loop-x-preserved : goal.loop-x-preserved
loop-x-preserved c =
    tilting_more c.requires.slopes c.loop-x.invariant c.loop-x-test.true c.shift_word.ensures
