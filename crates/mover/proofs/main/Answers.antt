-- The listing's length is at most its buffer's, so that the part that is written to standard output is there.
use Rattle.std.proofs.Common.{sym}
use Rattle.std.proofs.lemmas.List.{length-take-le}
use Rattle.listing.proofs.Laws.Listed.{listed_within}
use Rattle.mover.proofs.main.Goals as goal

pub slice_bounds-text-end : goal.slice_bounds-text-end
slice_bounds-text-end c = listed_within c.write_listing-length.ensures

pub slice_bounds-write_all-end : goal.slice_bounds-write_all-end
slice_bounds-write_all-end c = sym (length-take-le _ _ (listed_within c.write_listing-length.ensures))
