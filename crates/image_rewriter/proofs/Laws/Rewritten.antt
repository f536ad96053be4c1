-- How the outcome of rewriting follows from what was read and what was written.
use mathlib.Core.Path.{◌≡◌, refl, sym, ◌∙◌}
use mathlib.Core.Bool.{Bool, true, false, true≢false}
use mathlib.Core.List.{List}
use Prim.Native.Nat.{ℕ}
use native.Mathlib.Omega.{arith}
use lib.Dec.{leb}
use lib.ListN.{length, take}
use Rattle.std.specs.Prelude.{Result, IsErrAnd, Option, is_some}
use Rattle.std.specs.Option.{option_zip}
use Rattle.std.specs.declared.result.Result.TheVariants.{Ok, Err}
use Rattle.std.specs.declared.option.Option.TheVariants.{None, Some}
use Rattle.std.specs.Borrow.{Bor}
use Rattle.refusals.specs.declared.Refusal.{Refusal}
use Rattle.refusals.specs.Refusals.{number, number_of}
use Rattle.refusals.proofs.Laws.Outcome.{number_some, no_result, kept}
use Rattle.image_reader.specs.Reading.{root_number, tree_mark}
use Rattle.arithmetic.specs.Sum.{pick}
use Rattle.graph.specs.Graph.{graph}
use Rattle.image.specs.Image.{has_tree, parent_in}
use Rattle.image.specs.Contents.{Contents, contents_lent, root_lent, parents_lent, contents_of}
use Rattle.image_reader.specs.Read.{Lists, Read}
use Rattle.image_reader.proofs.Laws.Tables.{Wide, refused_anyway, formed, of_vertices, graph_read, amounts_read}
use Rattle.image_sections.specs.Held.{at_most}
use Rattle.image_writer.specs.WriteImage.{ImageWritten, SameContents, length_of}
use Rattle.image_writer.proofs.Laws.OneImage.{same_written}
use Rattle.image_rewriter.specs.Rewrite.{rewritten, rewrite_refusal, Rewritten}
use Rattle.image_rewriter.proofs.Laws.Readable.{contents_number}
use Rattle.image_rewriter.proofs.Laws.ReadBack.{number_formed}

-- the image is refused, and `?` hands the refusal on
pub not-rewritten : {s buffer : List ℕ} {t t' : Lists} {n m root tree : ℕ} (r : Refusal) → Read s t (number r) n m root tree t' → Wide t
    → (q : Result ℕ Refusal) → IsErrAnd q (λ e. e ≡ r) → Rewritten s buffer (number_of q) (length_of q) buffer
unfolding rewrite_refusal
not-rewritten r read w (Ok v) h = absurd h
not-rewritten {s} {buffer} r read w (Err e) h = rw h (record {
  refusal = refused_anyway s _ w read.refusal (number_some r);
  length_is = no_result r _;
  buffer_is = kept r _ buffer;
})

-- a root that was read, and what the tree's mark says of it
mark_read : (root : Option ℕ) (b : Bool) (ps : Bor (List ℕ)) → tree_mark root ≡ pick b 1 → is_some (option_zip root (Some ps)) ≡ b
mark_read None true ps e = absurd (omega arith)
mark_read None false ps e = refl
mark_read (Some x) true ps e = refl
mark_read (Some x) false ps e = absurd (omega arith)

root_read : (root : Option ℕ) (ps : Bor (List ℕ)) → root_lent (option_zip root (Some ps)) ≡ root_number root
root_read None ps = refl
root_read (Some x) ps = refl

parents_read : (root : Option ℕ) (ps : Bor (List ℕ)) → is_some (option_zip root (Some ps)) ≡ true → parents_lent (option_zip root (Some ps)) ≡ ps.now
parents_read None ps e = absurd (true≢false (sym e))
parents_read (Some x) ps e = refl

module _ {s : List ℕ} {t t' : Lists} {n m : ℕ} (root : Option ℕ) (read : Read s t 0 n m (root_number root) (tree_mark root) t')
    (ps : Bor (List ℕ)) (is : ps.now ≡ take n t'.parents) where
  -- what is handed to the writer
  abbrev handed : Contents
  handed =
      contents_lent (graph n (take m t'.lower) (take m t'.upper) (take m t'.lengths)) (take n t'.mu) (take n t'.nu) (option_zip root (Some ps))

  mark_is : handed.tree ≡ has_tree s
  mark_is = mark_read root (has_tree s) ps read.tree_is

  -- it is what the image holds
  same : SameContents handed (contents_of s)
  same = record {
    graph = graph_read read;
    mu = (amounts_read read).0;
    nu = (amounts_read read).1;
    tree = mark_is;
    root = λ e. root_read root ps ∙ (rw (sym mark_is ∙ e) at read.root_is);
    parents = λ e. parents_read root ps e ∙ is ∙ of_vertices read (parent_in s) _ _ (rw (sym mark_is ∙ e) at read.parents_are);
  }

  -- it was written
  pub was_written : at_most 255 s ≡ true → {buffer buffer' : List ℕ} {k long : ℕ} → ImageWritten handed buffer k long buffer'
      → Rewritten s buffer k long buffer'
  unfolding rewrite_refusal
  was_written bytes {buffer} {k = k} w =
      let a = formed read in
      let d = same_written same w in
      record {
        refusal = d.refusal ∙ contents_number a bytes (length buffer) ∙ sym (number_formed a (leb (length (rewritten s)) (length buffer)));
        length_is = d.length_is;
        buffer_is = d.buffer_is;
      }
