use native.Mathlib.Omega.{arith}
use Rattle.tree_pivot.proofs.Laws.PathWalk.{path_none, path_more, path_less, hand_none, hand_more, stored_none, stored_kept, stored_more, stored_end}
use Rattle.tree_pivot.proofs.Laws.PathReversal.{can_turn, turned}
use Rattle.tree_pivot.proofs.reverse_path.Goals as goal

pub loop-y-init : goal.loop-y-init
loop-y-init c =
    let walk = can_turn c.requires.1 in
    (path_none walk, ((stored_none walk, (c.requires.1.b_low, hand_none walk _ _)), (stored_none walk, hand_none walk _ _)))

pub loop-y-smaller : goal.loop-y-smaller
loop-y-smaller c =
    let inv = c.loop-y.invariant in
    let walk = can_turn c.requires.1 in
    rw (stored_kept walk inv.0 inv.1.0.0) (path_less walk inv.0 c.loop-y-test.true)

pub loop-y-preserved : goal.loop-y-preserved
loop-y-preserved c =
    let walk = can_turn c.requires.1 in
    let on = c.loop-y.invariant.0 in
    let p = c.loop-y.invariant.1.0 in
    let a = c.loop-y.invariant.1.1 in
    let go = c.loop-y-test.true in
    rw (stored_kept walk on p.0, stored_kept walk on a.0) (
      path_more walk on go,
      (
        (stored_more walk on p.0 go _ (omega arith) p.1.1, (on.low, hand_more walk on go _ _)),
        (stored_more walk on a.0 go _ (omega arith) a.1, hand_more walk on go _ _),
      ),
    )

pub returns : goal.returns
returns c =
    let walk = can_turn c.requires.1 in
    let inv = c.loop-y.invariant in
    let end = c.loop-y-test.false in
    record {
      size = inv.1.0.0.size;
      pivot = turned c.requires.1 (stored_end walk inv.0 inv.1.0.0 end);
      lengths = stored_end walk inv.0 inv.1.1.0 end;
    }
