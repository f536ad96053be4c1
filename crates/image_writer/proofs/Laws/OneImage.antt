-- "Two patches with paintings and tree get equal bytes exactly when they are equal."
use mathlib.Core.Path.{◌≡◌, refl, sym, ap, ◌∙◌}
use mathlib.Core.Bool.{Bool, true, false, true≢false}
use mathlib.Core.List.{List}
use Prim.Native.Nat.{ℕ, zero, suc}
use lib.ListN.{length}
use Rattle.std.specs.Prelude.{Option}
use Rattle.std.specs.Bool.{then_some}
use Rattle.std.specs.Borrow.{Bor}
use Rattle.arithmetic.specs.Table.{result, written}
use Rattle.arithmetic.proofs.Laws.Bools.{case}
use Rattle.graph.specs.Graph.{Graph}
use Rattle.image.specs.Contents.{Contents, contents, contents_lent}
use Rattle.packed_image.specs.Packed.{packed}
use Rattle.packed_image.proofs.Laws.Packed.{packed_ext}
use Rattle.image_sections.specs.SectionBytes.{edge_bytes}
use Rattle.image_writer.specs.ImageBytes.{section, image_bytes}
use Rattle.image_writer.specs.WriteImage.{tables_ok, numbers_ok, write_checks, write_refusal, ImageWritten, SameContents}
use Rattle.image_writer.proofs.Laws.Accepted.{writable}
use Rattle.image_writer.proofs.Laws.Contents.{held}

-- ---- being the same
pub same_back : {c d : Contents} → SameContents c d → SameContents d c
same_back h = record {
  graph = sym h.graph;
  mu = sym h.mu;
  nu = sym h.nu;
  tree = sym h.tree;
  root = λ e. sym (h.root (h.tree ∙ e));
  parents = λ e. sym (h.parents (h.tree ∙ e));
}

pub same_on : {c d e : Contents} → SameContents c d → SameContents d e → SameContents c e
same_on h k = record {
  graph = h.graph ∙ k.graph;
  mu = h.mu ∙ k.mu;
  nu = h.nu ∙ k.nu;
  tree = h.tree ∙ k.tree;
  root = λ e. h.root e ∙ k.root (sym h.tree ∙ e);
  parents = λ e. h.parents e ∙ k.parents (sym h.tree ∙ e);
}

-- ---- the bytes
module _ {c d : Contents} (h : SameContents c d) where
  section_same : (t : ℕ) → section c t ≡ section d t
  unfolding section
  section_same zero = ap (λ (g : Graph). edge_bytes g.lower g.upper g.lengths) h.graph
  section_same (suc zero) = rw (h.graph, h.mu)
  section_same (suc (suc zero)) = rw (h.graph, h.nu)
  section_same (suc (suc (suc t))) =
      case c.tree
      (λ e. rw (e, sym h.tree ∙ e, h.graph, h.root e, h.parents e))
      (λ e. rw (e, sym h.tree ∙ e))

  pub same_bytes : image_bytes c ≡ image_bytes d
  unfolding image_bytes
  same_bytes =
      packed_ext c.graph.n 0 (length c.graph.lower) 4 (section c) (section d) (λ t _. section_same t)
      ∙ ap (λ (g : Graph). packed g.n 0 (length g.lower) 4 (section d)) h.graph

  -- ---- the writer's number
  tables_same : (room : ℕ) → tables_ok c room ≡ tables_ok d room
  unfolding tables_ok
  tables_same room =
      case c.tree
      (λ e. rw (same_bytes, h.graph, h.mu, h.nu, h.parents e, h.tree))
      (λ e. rw (same_bytes, h.graph, h.mu, h.nu, e, sym h.tree ∙ e))

  numbers_same : numbers_ok c ≡ numbers_ok d
  unfolding numbers_ok
  numbers_same =
      case c.tree
      (λ e. rw (h.graph, h.mu, h.nu, h.root e, h.parents e, h.tree))
      (λ e. rw (h.graph, h.mu, h.nu, e, sym h.tree ∙ e))

  pub same_number : (room : ℕ) → write_refusal c room ≡ write_refusal d room
  unfolding write_checks
  same_number room = rw (tables_same room, numbers_same, h.graph)

  -- ---- its outcome
  pub same_written : {buffer buffer' : List ℕ} {k long : ℕ} → ImageWritten c buffer k long buffer' → ImageWritten d buffer k long buffer'
  same_written {buffer} {k = k} w = record {
    refusal = w.refusal ∙ same_number (length buffer);
    length_is = w.length_is ∙ ap (λ (l : List ℕ). result k (length l)) same_bytes;
    buffer_is = w.buffer_is ∙ ap (λ (l : List ℕ). written k l buffer) same_bytes;
  }

-- a tree that is lent where a mark says so: without it root and parents count for nothing
lent_same : (g : Graph) (mu nu : List ℕ) (tree : Bool) (root : ℕ) (ps : Bor (List ℕ))
    → SameContents (contents_lent g mu nu (then_some tree (root, ps))) (contents g mu nu tree root ps.now)
lent_same g mu nu true root ps = record { graph = refl; mu = refl; nu = refl; tree = refl; root = λ _. refl; parents = λ _. refl }
lent_same g mu nu false root ps =
    record { graph = refl; mu = refl; nu = refl; tree = refl; root = λ e. absurd (true≢false (sym e)); parents = λ e. absurd (true≢false (sym e)) }

pub lent_written : {g : Graph} {mu nu : List ℕ} (tree : Bool) (root : ℕ) (ps : Bor (List ℕ)) {lent : Option (ℕ × Bor (List ℕ))}
    {buffer buffer' : List ℕ} {k long : ℕ} → lent ≡ then_some tree (root, ps)
    → ImageWritten (contents_lent g mu nu lent) buffer k long buffer'
    → ImageWritten (contents g mu nu tree root ps.now) buffer k long buffer'
lent_written {g} {mu} {nu} tree root ps e w = same_written (lent_same g mu nu tree root ps) (rw e at w)

-- for what the writer accepts, whatever room it had
pub equal_bytes : (c d : Contents) (x y : ℕ) → write_refusal c x ≡ 0 → write_refusal d y ≡ 0
    → (image_bytes c ≡ image_bytes d → SameContents c d) × (SameContents c d → image_bytes c ≡ image_bytes d)
equal_bytes c d x y hc hd =
    (λ e. same_on (same_back (held (writable c x hc))) (rw (← e) at (held (writable d y hd))), λ h. same_bytes h)
