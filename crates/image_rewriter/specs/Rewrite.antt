-- Document 02, W-203: an image written anew, its refusal number and the whole outcome. s is the image's bytes.
use Rattle.std.specs.Prelude.{ℕ, ◌≡◌, List, length, leb}
use Rattle.arithmetic.specs.Refusal.{refusal}
use Rattle.arithmetic.specs.Table.{result, written}
use Rattle.image.specs.ImageChecks.{image_checks}
use Rattle.image.specs.Contents.{contents_of}
use Rattle.image_writer.specs.ImageBytes.{image_bytes}

-- "Rewriting any image": what it holds is written
abbrev pub rewritten : List ℕ → List ℕ
rewritten s = image_bytes (contents_of s)

-- the reader's checks, then "a buffer shorter than the image counting under 2"
unfoldable pub rewrite_refusal : List ℕ → List ℕ → ℕ
rewrite_refusal s buffer = refusal (image_checks s (leb (length (rewritten s)) (length buffer)))

-- the refusal number k, the length and the buffer as it comes back
pub record Rewritten (s buffer : List ℕ) (k long : ℕ) (buffer' : List ℕ) : Type 0 where
  pub refusal : k ≡ rewrite_refusal s buffer
  pub length_is : long ≡ result k (length (rewritten s))
  pub buffer_is : buffer' ≡ written k (rewritten s) buffer
