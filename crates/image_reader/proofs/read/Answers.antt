use Rattle.std.proofs.Common.{rules}
use Rattle.image_reader.specs.Read.{room_ok}
use Rattle.image_reader.proofs.Laws.Cases.{checked, refused, passed}
use Rattle.image_reader.proofs.read.Goals as goal

pub returns-in_err-check : goal.returns-in_err-check
unfolding room_ok
returns-in_err-check c = search (rules, refused, checked)

pub fill_edges-requires : goal.fill_edges-requires
fill_edges-requires c =
    let r = passed c.room-edges.ensures c.room-vertices.ensures c.in_ok-check.ensures in search rules

pub fill_amounts-requires : goal.fill_amounts-requires
fill_amounts-requires c =
    let r = passed c.room-edges.ensures c.room-vertices.ensures c.in_ok-check.ensures in search rules

pub fill_amounts-requires-2 : goal.fill_amounts-requires-2
fill_amounts-requires-2 c =
    let r = passed c.room-edges.ensures c.room-vertices.ensures c.in_ok-check.ensures in search rules

pub fill_parents-requires : goal.fill_parents-requires
fill_parents-requires c =
    let r = passed c.room-edges.ensures c.room-vertices.ensures c.in_ok-check.ensures in search rules

pub counts-requires : goal.counts-requires
counts-requires c =
    let r = passed c.room-edges.ensures c.room-vertices.ensures c.in_ok-check.ensures in search rules

pub returns : goal.returns
unfolding room_ok
returns c = search (rules, checked)
