-- "Reading what was written gives it back": what the reader gives of an image depends on what it holds alone.
use mathlib.Core.Path.{◌≡◌, sym, ap, ◌∙◌}
use mathlib.Core.Bool.{Bool, cond, ◌&&◌}
use mathlib.Core.List.{List, [], ◌∷◌}
use Prim.Native.Nat.{ℕ}
use lib.ListN.{length}
use borrow.Author.Tests.{le-leb}
use Rattle.arithmetic.specs.Sum.{pick}
use Rattle.arithmetic.specs.Refusal.{check, refusal}
use Rattle.arithmetic.specs.Table.{tab, result, written}
use Rattle.arithmetic.proofs.Laws.Bools.{case}
use Rattle.arithmetic.proofs.Laws.Table.{length-tab}
use Rattle.graph.specs.Graph.{Graph}
use Rattle.image.specs.Image.{edge_count, lower_end}
use Rattle.image.specs.ImageChecks.{image_checks, room_in}
use Rattle.image.specs.Contents.{Contents, contents_of}
use Rattle.image.proofs.Laws.ImageCheck.{WellFormed}
use Rattle.image_reader.specs.Read.{Lists, room_ok, read_refusal, Read}
use Rattle.image_writer.specs.ImageBytes.{image_bytes}
use Rattle.image_writer.specs.WriteImage.{write_refusal, SameContents}
use Rattle.image_writer.proofs.Laws.Accepted.{writable}
use Rattle.image_writer.proofs.Laws.Contents.{formed, held}
use Rattle.image_rewriter.specs.ReadBack.{room_for, ReadBack}

-- of an image that passes the other checks the room alone counts
pub number_formed : {s : List ℕ} → WellFormed s → (room : Bool) → refusal (image_checks s room) ≡ refusal (check 2 room ∷ [])
unfolding image_checks refusal
number_formed {s} a room = rw (a.size, a.sections, a.layout, a.vertices, le-leb (edge_count s) 512 a.edges)

counted : (s : List ℕ) → length (tab (edge_count s) (lower_end s)) ≡ edge_count s
counted s = length-tab (edge_count s) (lower_end s)

room_is : (s : List ℕ) (t : Lists) → room_ok s t ≡ room_for (contents_of s) t
unfolding room_ok
room_is s t = rw (counted s)

module _ {s : List ℕ} (a : WellFormed s) where
  number_is : (t : Lists) → read_refusal s t ≡ refusal (check 2 (room_for (contents_of s) t) ∷ [])
  number_is t = number_formed a (room_ok s t) ∙ ap (λ (b : Bool). refusal (check 2 b ∷ [])) (room_is s t)

  pub read_contents : {t t' : Lists} {k n m root tree : ℕ} → Read s t k n m root tree t' → ReadBack (contents_of s) t k n m root tree t'
  read_contents {t} r = record {
    refusal = r.refusal ∙ number_is t;
    n_is = r.n_is;
    m_is = rw (counted s) r.m_is;
    root_is = r.root_is;
    tree_is = r.tree_is;
    lower_is = r.lower_is;
    upper_is = r.upper_is;
    lengths_are = r.lengths_are;
    mu_is = r.mu_is;
    nu_is = r.nu_is;
    parents_are = r.parents_are;
  }

  pub contents_read : {t t' : Lists} {k n m root tree : ℕ} → ReadBack (contents_of s) t k n m root tree t' → Read s t k n m root tree t'
  contents_read {t} r = record {
    refusal = r.refusal ∙ sym (number_is t);
    n_is = r.n_is;
    m_is = rw (counted s) at r.m_is;
    root_is = r.root_is;
    tree_is = r.tree_is;
    lower_is = r.lower_is;
    upper_is = r.upper_is;
    lengths_are = r.lengths_are;
    mu_is = r.mu_is;
    nu_is = r.nu_is;
    parents_are = r.parents_are;
  }

-- the same contents give the same
module _ {c d : Contents} (h : SameContents c d) where
  root_same : pick c.tree c.root ≡ pick d.tree d.root
  root_same = case c.tree (λ e. rw (e, sym h.tree ∙ e) (h.root e)) (λ e. rw (e, sym h.tree ∙ e))

  parents_same : cond c.tree c.parents [] ≡ cond d.tree d.parents []
  parents_same = case c.tree (λ e. rw (e, sym h.tree ∙ e) (h.parents e)) (λ e. rw (e, sym h.tree ∙ e))

  pub back_same : {t t' : Lists} {k n m root tree : ℕ} → ReadBack c t k n m root tree t' → ReadBack d t k n m root tree t'
  back_same {t} {k = k} r = record {
    refusal = r.refusal ∙ ap (λ (g : Graph). refusal (check 2 (room g) ∷ [])) h.graph;
    n_is = r.n_is ∙ ap (λ (g : Graph). result k g.n) h.graph;
    m_is = r.m_is ∙ ap (λ (g : Graph). result k (length g.lower)) h.graph;
    root_is = r.root_is ∙ ap (result k) root_same;
    tree_is = r.tree_is ∙ ap (λ (b : Bool). result k (pick b 1)) h.tree;
    lower_is = r.lower_is ∙ ap (λ (g : Graph). written k g.lower t.lower) h.graph;
    upper_is = r.upper_is ∙ ap (λ (g : Graph). written k g.upper t.upper) h.graph;
    lengths_are = r.lengths_are ∙ ap (λ (g : Graph). written k g.lengths t.lengths) h.graph;
    mu_is = r.mu_is ∙ ap (λ (l : List ℕ). written k l t.mu) h.mu;
    nu_is = r.nu_is ∙ ap (λ (l : List ℕ). written k l t.nu) h.nu;
    parents_are = r.parents_are ∙ ap (λ (l : List ℕ). written k l t.parents) parents_same;
  }
    where
      room : Graph → Bool
      room g =
          room_in (length g.lower) (length t.lower) (length t.upper) (length t.lengths)
          && room_in g.n (length t.mu) (length t.nu) (length t.parents)

-- of what the writer accepts, whatever room it had
pub read_back : (c : Contents) (x : ℕ) → write_refusal c x ≡ 0 → (t t' : Lists) (k n m root tree : ℕ)
    → Read (image_bytes c) t k n m root tree t' → ReadBack c t k n m root tree t'
read_back c x h t t' k n m root tree r =
    let w = writable c x h in back_same (held w) (read_contents (formed w) r)
