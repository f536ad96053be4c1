use native.Mathlib.Omega.{arith}
use Rattle.plan_matching.proofs.Laws.Sending.{word_has, send_done}
use Rattle.plan_matching.proofs.Residue.send.Goals as goal

pub without_empty-self-requires : goal.without_empty-self-requires
without_empty-self-requires c =
    (omega arith, word_has _ _ _ _ c.requires.0 c.requires.4.senders_are c.requires.2)

pub without_empty-self-requires-2 : goal.without_empty-self-requires-2
without_empty-self-requires-2 c =
    (omega arith, word_has _ _ _ _ c.requires.1 c.requires.4.receivers_are c.requires.3)

pub returns : goal.returns
returns c =
    send_done _ _ _ c.requires.4 _ _ c.requires.0 c.requires.1 c.requires.2 c.requires.3 _ _ _ _
    c.min-amount.ensures c.place.ensures.0 c.without_empty-self.ensures c.without_empty-self-2.ensures
