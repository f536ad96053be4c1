use Rattle.tree_pivot.proofs.Laws.PathWalk.{path_none, path_more, path_less, stored_none}
use Rattle.tree_pivot.proofs.Laws.PivotTables.{shift_room, shift_more}
use Rattle.tree_pivot.proofs.Subtrees.shift_path.Goals as goal

pub loop-y-init : goal.loop-y-init
loop-y-init c = let walk = c.requires.0.store.walk in (path_none walk, (stored_none walk, (stored_none walk, stored_none walk)))

pub shifted-requires : goal.shifted-requires
shifted-requires c =
    let inv = c.loop-y.invariant in
    shift_room c.requires.0 inv.0 c.loop-y-test.true inv.1.0

pub shifted-requires-in-loop-y : goal.shifted-requires-in-loop-y
shifted-requires-in-loop-y c =
    let inv = c.loop-y.invariant in
    shift_room c.requires.1.0 inv.0 c.loop-y-test.true inv.1.1.0

pub shifted-requires-in-loop-y-2 : goal.shifted-requires-in-loop-y-2
shifted-requires-in-loop-y-2 c =
    let inv = c.loop-y.invariant in
    shift_room c.requires.1.1 inv.0 c.loop-y-test.true inv.1.1.1

pub loop-y-smaller : goal.loop-y-smaller
loop-y-smaller c =
    path_less c.requires.0.store.walk c.loop-y.invariant.0 c.loop-y-test.true

pub loop-y-preserved : goal.loop-y-preserved
loop-y-preserved c =
    let on = c.loop-y.invariant.0 in
    let w = c.loop-y.invariant.1 in
    let go = c.loop-y-test.true in (
      path_more c.requires.0.store.walk on go,
      (
        shift_more c.requires.0 on go w.0 _ c.shifted.ensures,
        (
          shift_more c.requires.1.0 on go w.1.0 _ c.shifted-in-loop-y.ensures,
          shift_more c.requires.1.1 on go w.1.1 _ c.shifted-in-loop-y-2.ensures,
        ),
      ),
    )
