use native.Mathlib.Omega.{arith}
use Rattle.image_sequence.proofs.Laws.Sequence.{part_is, directory_in, image_in}
use Rattle.image_sequence.proofs.image_at.Goals as goal

-- `image_at` meets its contract.
pub offset-start-requires : goal.offset-start-requires
offset-start-requires c = omega (arith, directory_in _ c.requires.0, c.requires.1)

pub end-end-requires : goal.end-end-requires
end-end-requires c = omega (arith, directory_in _ c.requires.0, c.requires.1)

pub slice_bounds-result-end : goal.slice_bounds-result-end
slice_bounds-result-end c = omega (arith, image_in _ c.requires.0 _ c.requires.1)

pub returns : goal.returns
returns c =
    part_is _ _ _ _ c.offset-start.ensures.0 c.end-end.ensures
