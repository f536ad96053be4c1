-- Document 02, W-203: the writer, its checks and its whole outcome.
use Rattle.std.specs.Prelude.{ℕ, ◌≡◌, Bool, true, not, ◌&&◌, ◌||◌, List, [], ◌∷◌, ◌++◌, length, eqb, leb, Result}
use Rattle.arithmetic.specs.Refusal.{Check, check, refusal}
use Rattle.arithmetic.specs.Table.{result, written}
use Rattle.refusals.specs.declared.Refusal.{Refusal}
use Rattle.refusals.specs.Refusals.{or_zero}
use Rattle.graph.specs.Checks.{size_checks}
use Rattle.image.specs.Contents.{Contents}
use Rattle.image_sections.specs.Held.{at_most, edges_held, tree_held}
use Rattle.image_writer.specs.ImageBytes.{image_bytes}

-- 2: "painting or parents not n long", and "a buffer shorter than the image"; `room` is the buffer's length. "Without a tree, root and parents are
-- neither checked nor compared"
unfoldable pub tables_ok : Contents → ℕ → Bool
tables_ok c room =
    eqb (length c.mu) c.graph.n && (eqb (length c.nu) c.graph.n
    && ((not c.tree || eqb (length c.parents) c.graph.n) && leb (length (image_bytes c)) room))

-- 13: each number is one that a section can hold
unfoldable pub numbers_ok : Contents → Bool
numbers_ok c =
    edges_held c.graph.lower c.graph.upper c.graph.lengths
    && (at_most 4294967295 c.mu && (at_most 4294967295 c.nu && tree_held c.tree c.root c.parents))

-- "The writer examines 1 and 2 only, .. and then gives 13"
unfoldable pub write_checks : Contents → ℕ → List Check
write_checks c room = size_checks c.graph (tables_ok c room) ++ (check 13 (numbers_ok c) ∷ [])

abbrev pub write_refusal : Contents → ℕ → ℕ
write_refusal c room = refusal (write_checks c room)

-- "returns its length", "A refused buffer keeps its contents": the refusal number k, the length and the buffer as it comes back
pub record ImageWritten (c : Contents) (buffer : List ℕ) (k long : ℕ) (buffer' : List ℕ) : Type 0 where
  pub refusal : k ≡ write_refusal c (length buffer)
  pub length_is : long ≡ result k (length (image_bytes c))
  pub buffer_is : buffer' ≡ written k (image_bytes c) buffer

-- the length that a call returns, after a refusal 0
abbrev pub length_of : Result ℕ Refusal → ℕ
length_of = or_zero (λ v. v)

-- "equal": n, the edges, both paintings and the tree mark; with a tree also root and parents
pub record SameContents (c d : Contents) : Type 0 where
  pub graph : c.graph ≡ d.graph
  pub mu : c.mu ≡ d.mu
  pub nu : c.nu ≡ d.nu
  pub tree : c.tree ≡ d.tree
  pub root : c.tree ≡ true → c.root ≡ d.root
  pub parents : c.tree ≡ true → c.parents ≡ d.parents
