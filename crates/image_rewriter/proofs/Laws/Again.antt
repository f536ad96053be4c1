-- "Rewriting any image that reads without refusal keeps its meaning, and rewriting the result changes no byte."
use mathlib.Core.Path.{◌≡◌, ◌∙◌}
use mathlib.Core.Bool.{true}
use mathlib.Core.List.{List}
use Prim.Native.Nat.{ℕ, ◌≤◌}
use native.Mathlib.Omega.{arith}
use lib.ListN.{length}
use borrow.Author.Tests.{le-leb}
use Rattle.arithmetic.specs.Refusal.{refusal}
use Rattle.image.specs.Contents.{Contents, contents_of}
use Rattle.image.proofs.Laws.ImageCheck.{WellFormed, well_formed, image_passes}
use Rattle.image_reader.specs.Read.{Lists, room_ok, read_refusal, Read}
use Rattle.image_sections.specs.Held.{at_most}
use Rattle.image_writer.specs.ImageBytes.{image_bytes}
use Rattle.image_writer.specs.WriteImage.{write_refusal}
use Rattle.image_writer.specs.Steps.Writable.{Writable}
use Rattle.image_writer.proofs.Laws.Accepted.{writable}
use Rattle.image_writer.proofs.Laws.Contents.{formed, held}
use Rattle.image_writer.proofs.Laws.OneImage.{same_back, same_bytes}
use Rattle.image_rewriter.specs.Rewrite.{rewritten, rewrite_refusal}
use Rattle.image_rewriter.proofs.Laws.Readable.{contents_number, never_longer}
use Rattle.image_rewriter.proofs.Laws.ReadBack.{read_contents, contents_read, back_same}

-- what was written is rewritten to itself
pub written_again : (c : Contents) (x : ℕ) → write_refusal c x ≡ 0 → rewritten (image_bytes c) ≡ image_bytes c
written_again c x h = same_bytes (held (writable c x h))

-- an image of bytes that is read without refusal, into some lists
module _ (s : List ℕ) (bytes : at_most 255 s ≡ true) (u : Lists) (reads : read_refusal s u ≡ 0) where
  form : WellFormed s
  form = (well_formed s (room_ok s u) reads).0

  enough : write_refusal (contents_of s) (length (rewritten s)) ≡ 0
  unfolding refusal
  enough =
      contents_number form bytes (length (rewritten s))
      ∙ rw (le-leb (length (rewritten s)) (length (rewritten s)) (omega arith))

  fits : Writable (contents_of s) (length (rewritten s))
  fits = writable (contents_of s) (length (rewritten s)) enough

  -- "keeps its meaning": read into the same lists, the same number, counts, root, mark and lists
  pub rewriting_keeps : (t t' : Lists) (k n m root tree : ℕ) → Read s t k n m root tree t' → Read (rewritten s) t k n m root tree t'
  rewriting_keeps t t' k n m root tree r = contents_read (formed fits) (back_same (same_back (held fits)) (read_contents form r))

  -- in a buffer with room for it the image is accepted, and so is the result; "rewriting the result changes no byte"
  pub rewriting_again : (buffer : List ℕ) → length (rewritten s) ≤ length buffer
      → (rewrite_refusal s buffer ≡ 0) × (rewrite_refusal (rewritten s) buffer ≡ 0) × (rewritten (rewritten s) ≡ rewritten s)
  unfolding rewrite_refusal
  rewriting_again buffer h =
      let again = written_again (contents_of s) (length (rewritten s)) enough in (
        rw (le-leb (length (rewritten s)) (length buffer) h) (image_passes form),
        rw (again, le-leb (length (rewritten s)) (length buffer) h) (image_passes (formed fits)),
        again,
      )

  -- the result is never longer than the image
  pub rewriting_shorter : length (rewritten s) ≤ length s
  rewriting_shorter = never_longer form
