-- The tables are those of the list's fields, or the list is too long for either.
use Rattle.distances.proofs.Laws.RecordCases.{refused_1, refused_2, of_columns}
use Rattle.distances.proofs.records.distances_of_records.Goals as goal

pub returns-then-vertices_fit : goal.returns-then-vertices_fit
returns-then-vertices_fit c = refused_2 _ _ _ c.if-m-gt512.true _ c.vertices_fit.ensures c.if-vertices_fit.true

pub returns-then-m-gt512 : goal.returns-then-m-gt512
returns-then-m-gt512 c = refused_1 _ _ _ c.if-m-gt512.true _ c.vertices_fit.ensures c.if-vertices_fit.false

pub returns : goal.returns
returns c = of_columns c.args.n c.args.edges.now c.args.out.now _ _ (rw c.take_apart-c.ensures at c.distances.ensures)
