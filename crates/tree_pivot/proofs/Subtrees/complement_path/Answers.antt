use Rattle.tree_pivot.proofs.Laws.PathWalk.{path_none, path_more, path_less}
use Rattle.tree_pivot.proofs.Laws.PivotTables.{complement_none, complement_more}
use Rattle.tree_pivot.proofs.Subtrees.complement_path.Goals as goal

pub loop-y-init : goal.loop-y-init
loop-y-init c =
    (path_none c.requires.0.store.walk, (complement_none c.requires.0, (complement_none c.requires.1.0, complement_none c.requires.1.1)))

pub loop-y-smaller : goal.loop-y-smaller
loop-y-smaller c =
    path_less c.requires.0.store.walk c.loop-y.invariant.0 c.loop-y-test.true

pub loop-y-preserved : goal.loop-y-preserved
loop-y-preserved c =
    let is = c.of_vertex-own.ensures in
    let on = c.loop-y.invariant.0 in
    let w = c.loop-y.invariant.1 in
    let go = c.loop-y-test.true in (
      path_more c.requires.0.store.walk on go,
      (
        complement_more c.requires.0 on w.0 go is.0,
        (complement_more c.requires.1.0 on w.1.0 go is.1.0, complement_more c.requires.1.1 on w.1.1 go is.1.1),
      ),
    )
