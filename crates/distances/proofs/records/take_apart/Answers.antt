-- Each turn puts one field of one edge behind its column's forerunners.
use Rattle.std.proofs.Common.{refl, ◌<◌, arith}
use Rattle.distances.specs.Records.{lower_of, upper_of, length_of}
use Rattle.distances.proofs.Laws.RecordCases.{column_none, column_more}
use Rattle.distances.proofs.records.take_apart.Goals as goal

pub loop-i-init : goal.loop-i-init
loop-i-init c =
    let es = c.args.edges.now in
    (column_none lower_of refl es, column_none upper_of refl es, column_none length_of refl es)

pub loop-i-preserved : goal.loop-i-preserved
loop-i-preserved c =
    let es = c.args.edges.now in
    let i = c.loop-i.i in
    let h = c.loop-i.invariant in
    let few : i < 512 = omega (arith, c.requires, c.loop-i-test.true) in (
      rw h.0 (column_more lower_of refl es i few),
      rw h.1 (column_more upper_of refl es i few),
      rw h.2 (column_more length_of refl es i few),
    )
