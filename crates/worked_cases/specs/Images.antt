-- Document 02, W-203, on some patches and images: what the writer and the rewriter give, and the lent buffer after it.
use Rattle.std.specs.Prelude.{ℕ, Bool, true, false, ◌&&◌, List, [], ◌∷◌, ◌++◌, eqb}
use Rattle.arithmetic.specs.Table.{tab, written}
use Rattle.graph.specs.Graph.{graph}
use Rattle.image.specs.Contents.{Contents, contents}
use Rattle.image_writer.specs.ImageBytes.{image_bytes}
use Rattle.image_writer.specs.WriteImage.{write_refusal}
use Rattle.image_rewriter.specs.Rewrite.{rewritten, rewrite_refusal}
use Rattle.worked_cases.specs.Figures.{Case, sames}
use Rattle.worked_cases.specs.Cases.{a, b, image_a, image_b, short, early, mu_4}

-- a buffer of so many places, as it is lent
abbrev pub sevens : ℕ → List ℕ
sevens room = tab room (λ i. 7)

-- what is written into a buffer, the number that the call gives, and the buffer after it
pub record WriteCase : Type 0 where
  pub given : Contents
  pub room : ℕ
  pub refusal : ℕ
  pub after : List ℕ

abbrev pub write_case : Contents → ℕ → ℕ → List ℕ → WriteCase
write_case c room k after = record { given = c; room = room; refusal = k; after = after }

unfoldable pub writes : WriteCase → Bool
writes c =
    eqb (write_refusal c.given c.room) c.refusal
    && sames eqb (written (write_refusal c.given c.room) (image_bytes c.given) (sevens c.room)) c.after

-- the same of an image that is written anew
pub record RewriteCase : Type 0 where
  pub image : List ℕ
  pub room : ℕ
  pub refusal : ℕ
  pub after : List ℕ

abbrev pub rewrite_case : List ℕ → ℕ → ℕ → List ℕ → RewriteCase
rewrite_case s room k after = record { image = s; room = room; refusal = k; after = after }

unfoldable pub rewrites : RewriteCase → Bool
rewrites c =
    eqb (rewrite_refusal c.image (sevens c.room)) c.refusal
    && sames eqb (written (rewrite_refusal c.image (sevens c.room)) (rewritten c.image) (sevens c.room)) c.after

-- a case's patch, its paintings and its tree
abbrev pub contents_of_case : Case → Contents
contents_of_case x = contents x.patch x.lent.mu x.lent.nu true x.lent.root x.lent.parents

-- one vertex with these amounts and this tree, of 46 bytes
abbrev pub lone : ℕ → ℕ → ℕ → ℕ → Contents
lone before after root parent = contents (graph 1 [] [] []) (before ∷ []) (after ∷ []) true root (parent ∷ [])

-- two vertices with an edge, and no tree, of 56 bytes
abbrev pub pair_of : ℕ → ℕ → ℕ → List ℕ → Contents
pair_of x y long mu = contents (graph 2 (x ∷ []) (y ∷ []) (long ∷ [])) mu (0 ∷ 0 ∷ []) false 0 []

-- A's image with its tree, and a place more; B's without a tree, whatever root and parents are handed in; the largest numbers, ends that are no
-- vertices and unequal totals; refused by 1 before 2; by 2 for one place less, for parents and for amounts of another length, and before 13; and by 13
abbrev pub write_cases : List WriteCase
write_cases =
    write_case (contents_of_case a) 86 0 (image_a.image ++ (7 ∷ []))
    ∷ write_case (contents b.patch b.lent.mu b.lent.nu false 300 (999 ∷ [])) 84 0 image_b.image
    ∷ write_case (pair_of 255 255 65535 (4294967295 ∷ 1 ∷ [])) 56 0
    (2 ∷ 0 ∷ 1 ∷ 0 ∷ 36 ∷ 0 ∷ 0 ∷ 0 ∷ 4 ∷ 0 ∷ 0 ∷ 0 ∷ 40 ∷ 0 ∷ 0 ∷ 0 ∷ 8 ∷ 0 ∷ 0 ∷ 0 ∷ 48 ∷ 0 ∷ 0 ∷ 0 ∷ 8 ∷ 0 ∷ 0 ∷ 0 ∷ 56 ∷ 0 ∷ 0 ∷ 0 ∷ 0 ∷ 0 ∷ 0 ∷ 0 ∷ 255 ∷ 255 ∷ 255 ∷ 255 ∷ 255 ∷ 255 ∷ 255 ∷ 255 ∷ 1 ∷ 0 ∷ 0 ∷ 0 ∷ 0 ∷ 0 ∷ 0 ∷ 0 ∷ 0 ∷ 0 ∷ 0 ∷ 0 ∷ [])
    ∷ write_case (contents (graph 0 [] [] []) (1 ∷ []) [] false 0 []) 0 1 []
    ∷ write_case (contents_of_case a) 84 2 (sevens 84)
    ∷ write_case (contents a.patch a.lent.mu a.lent.nu true 3 (1 ∷ 2 ∷ 3 ∷ [])) 86 2 (sevens 86)
    ∷ write_case (pair_of 0 1 1 (1 ∷ [])) 60 2 (sevens 60)
    ∷ write_case (pair_of 256 1 1 (1 ∷ [])) 60 2 (sevens 60)
    ∷ write_case (pair_of 256 1 1 (1 ∷ 0 ∷ [])) 56 13 (sevens 56)
    ∷ write_case (pair_of 0 256 1 (1 ∷ 0 ∷ [])) 56 13 (sevens 56)
    ∷ write_case (pair_of 0 1 65536 (1 ∷ 0 ∷ [])) 56 13 (sevens 56)
    ∷ write_case (lone 4294967296 0 0 0) 46 13 (sevens 46)
    ∷ write_case (lone 0 4294967296 0 0) 46 13 (sevens 46)
    ∷ write_case (lone 0 0 256 0) 46 13 (sevens 46)
    ∷ write_case (lone 0 0 0 256) 46 13 (sevens 46)
    ∷ []

-- A's image with a byte before its edges, two before nu and three behind the tree
abbrev pub image_a_gaps : List ℕ
image_a_gaps =
    4 ∷ 0 ∷ 3 ∷ 0 ∷ 37 ∷ 0 ∷ 0 ∷ 0 ∷ 12 ∷ 0 ∷ 0 ∷ 0 ∷ 49 ∷ 0 ∷ 0 ∷ 0 ∷ 16 ∷ 0 ∷ 0 ∷ 0 ∷ 67 ∷ 0 ∷ 0 ∷ 0 ∷ 16 ∷ 0 ∷ 0 ∷ 0 ∷ 83 ∷ 0 ∷ 0 ∷ 0 ∷ 5 ∷ 0 ∷ 0 ∷ 0 ∷ 9 ∷ 0 ∷ 1 ∷ 2 ∷ 0 ∷ 1 ∷ 2 ∷ 3 ∷ 0 ∷ 2 ∷ 3 ∷ 1 ∷ 0 ∷ 5 ∷ 0 ∷ 0 ∷ 0 ∷ 0 ∷ 0 ∷ 0 ∷ 0 ∷ 1 ∷ 0 ∷ 0 ∷ 0 ∷ 0 ∷ 0 ∷ 0 ∷ 0 ∷ 9 ∷ 9 ∷ 0 ∷ 0 ∷ 0 ∷ 0 ∷ 2 ∷ 0 ∷ 0 ∷ 0 ∷ 1 ∷ 0 ∷ 0 ∷ 0 ∷ 3 ∷ 0 ∷ 0 ∷ 0 ∷ 3 ∷ 1 ∷ 2 ∷ 3 ∷ 3 ∷ 9 ∷ 9 ∷ 9 ∷ []

-- written anew it is A's image, and so is A's image itself; refused by 2 for one place less, and by 11, 12 and 13 like the reader
abbrev pub rewrite_cases : List RewriteCase
rewrite_cases =
    rewrite_case image_a_gaps 86 0 (image_a.image ++ (7 ∷ []))
    ∷ rewrite_case image_a.image 85 0 image_a.image
    ∷ rewrite_case image_b.image 84 0 image_b.image
    ∷ rewrite_case image_a_gaps 84 2 (sevens 84)
    ∷ rewrite_case short.image 99 11 (sevens 99)
    ∷ rewrite_case early.image 99 12 (sevens 99)
    ∷ rewrite_case mu_4.image 99 13 (sevens 99)
    ∷ []
