use mathlib.Core.Logic.{inl, inr}
use Rattle.plan_matching.proofs.Laws.Matching.{both_word, both_positive, matching_less, matching_more, matching_end}
use Rattle.plan_matching.proofs.Residue.match_subtree.Goals as goal
use Rattle.plan_matching.proofs.Residue.match_subtree.Goals.{then-from-eq0-via-then-from-eq0, then-from-eq0-via-else-from-eq0+then-to-eq0}

pub returns-then-from-eq0 : goal.returns-then-from-eq0
returns-then-from-eq0 c =
    matching_end _ _ c.requires.0 c.loop-n.invariant
    (elim c.then-from-eq0.branch [ then-from-eq0-via-then-from-eq0 w ↦ inl w.if-from-eq0.true | then-from-eq0-via-else-from-eq0+then-to-eq0 w ↦ inr w.if-to-eq0.true ])

pub lowest_vertex-i-requires : goal.lowest_vertex-i-requires
lowest_vertex-i-requires c =
    let v = c.loop-n.invariant.consistent in
    (v.small, both_word _ _ _ _ c.requires.0 v.senders_are, c.if-from-eq0.false)

pub lowest_vertex-j-requires : goal.lowest_vertex-j-requires
lowest_vertex-j-requires c =
    let v = c.loop-n.invariant.consistent in
    (v.small, both_word _ _ _ _ c.requires.0 v.receivers_are, c.if-to-eq0.false)

pub send-requires : goal.send-requires
send-requires c =
    let v = c.loop-n.invariant.consistent in
    let w = c.requires.0 in
    let i = c.lowest_vertex-i.ensures in
    let j = c.lowest_vertex-j.ensures in
    (i.1, j.1, both_positive _ _ _ _ w v.senders_are _ i, both_positive _ _ _ _ w v.receivers_are _ j, v)

pub loop-n-smaller : goal.loop-n-smaller
loop-n-smaller c =
    matching_less _ _ c.requires.0 c.loop-n.invariant c.lowest_vertex-i.ensures c.lowest_vertex-j.ensures c.send.ensures

pub loop-n-preserved : goal.loop-n-preserved
loop-n-preserved c =
    matching_more _ _ c.requires.0 c.loop-n.invariant c.lowest_vertex-i.ensures c.lowest_vertex-j.ensures c.send.ensures
