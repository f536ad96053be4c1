-- Check 14: how it is examined, and what it says.
use Prim.Native.Nat.{ℕ, ◌-◌, ◌≤◌, ◌<◌}
use mathlib.Core.Path.{◌≡◌}
use mathlib.Core.Bool.{Bool, true, false}
use mathlib.Core.List.{List}
use native.Mathlib.Omega.{arith}
use lib.ListN.{length, take, drop}
use lib.Dec.{leb}
use borrow.Author.Tests.{leb-true, le-leb, lt-leb}
use Rattle.arithmetic.specs.Bools.{all}
use Rattle.arithmetic.proofs.Laws.Bools.{all-at, and_l, and_r}
use Rattle.directory.specs.Directory.{offset_in, extent_in, end_in, pair_ok}
use Rattle.image_sequence.specs.Sequence.{image_count, directory_end, image_at, sequence_ok}

module _ (s : List ℕ) where
  -- the part of the bytes between an image's ends
  pub part_is : (i a e : ℕ) → a ≡ offset_in 2 s i → e ≡ end_in 2 s i → take (e - a) (drop a s) ≡ image_at s i
  part_is i a e f g = let z : e - a ≡ extent_in 2 s i = omega arith in rw (z, f)

  module _ (ok : sequence_ok s ≡ true) where
    pub two_bytes : 2 ≤ length s
    unfolding sequence_ok
    two_bytes = leb-true 2 (length s) (and_l (leb 2 (length s)) _ ok)

    pub directory_in : directory_end s ≤ length s
    unfolding sequence_ok
    directory_in = search (leb-true, and_l, and_r)

    -- an image ends within the sequence
    pub image_in : (i : ℕ) → i < image_count s → end_in 2 s i ≤ length s
    unfolding sequence_ok pair_ok
    image_in i l =
        let pairs : all (image_count s) (pair_ok 2 (directory_end s) s) ≡ true = search and_r in
        let z = all-at (image_count s) (pair_ok 2 (directory_end s) s) pairs i l in
        search (leb-true, and_r)
