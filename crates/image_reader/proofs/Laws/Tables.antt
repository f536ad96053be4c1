-- Tables that are read into: wide enough for every image, and what stands in their first places.
use Prim.Native.Nat.{ℕ, ◌≤◌}
use mathlib.Core.Path.{◌≡◌, sym}
use mathlib.Core.Bool.{Bool, true, ◌&&◌}
use mathlib.Core.List.{List, [], ◌∷◌}
use native.Mathlib.Omega.{arith}
use lib.Dec.{leb}
use lib.ListN.{length, take, drop}
use lib.Seq.{take_at}
use borrow.Author.Tests.{le-leb, leb-true}
use Rattle.arithmetic.specs.Table.{tab, written}
use Rattle.arithmetic.specs.Refusal.{Check, check, refusal}
use Rattle.arithmetic.proofs.Laws.Bools.{case, and-true}
use Rattle.arithmetic.proofs.Laws.Table.{length-tab}
use Rattle.arithmetic.proofs.Laws.Refusal.{stops}
use Rattle.graph.specs.Graph.{graph}
use Rattle.graph.specs.Checks.{vertices_ok}
use Rattle.graph.proofs.Laws.Accepted.{vertices_in}
use Rattle.image.specs.Image.{size_ok, sections_ok, layout_ok, vertex_count, edge_count, lower_end, upper_end, edge_length_of, amount}
use Rattle.image.specs.ImageChecks.{image_checks}
use Rattle.image.specs.Contents.{graph_of_image}
use Rattle.image.proofs.Laws.ImageCheck.{WellFormed, well_formed}
use Rattle.image_reader.specs.Read.{Lists, room_ok, read_refusal, Read}

-- tables that are wide enough for every image that is accepted
pub record Wide (t : Lists) : Type 0 where
  pub lower : 512 ≤ length t.lower
  pub upper : 512 ≤ length t.upper
  pub lengths : 512 ≤ length t.lengths
  pub mu : 64 ≤ length t.mu
  pub nu : 64 ≤ length t.nu
  pub parents : 64 ≤ length t.parents

within : (x y z : ℕ) → x ≤ y → y ≤ z → leb x z ≡ true
within x y z h k = le-leb x z (omega arith)

has_room : (s : List ℕ) (t : Lists) → Wide t → vertex_count s ≤ 64 → edge_count s ≤ 512 → room_ok s t ≡ true
unfolding room_ok
has_room s t w v e = search (and-true, within)

-- the checks of an image's form
abbrev form_checks : List ℕ → List Check
form_checks s = check 11 (size_ok s) ∷ check 12 (sections_ok s) ∷ check 13 (layout_ok s) ∷ []

-- what refuses an image in wide tables refuses it whatever the room
pub refused_anyway : (s : List ℕ) (fits : Bool) {t : Lists} {k : ℕ} → Wide t → k ≡ read_refusal s t → (k ≡ 0 → ⊥) → k ≡ refusal (image_checks s fits)
unfolding image_checks refusal
refused_anyway s fits {t} {k} w h n =
    case (vertices_ok (vertex_count s))
    (λ e. case (leb (edge_count s) 512)
    (λ f.
    let room = has_room s t w (vertices_in (vertex_count s) e).1 (leb-true (edge_count s) 512 f) in
    let rest = check 1 (vertices_ok (vertex_count s)) ∷ check 2 (leb (edge_count s) 512 && fits) ∷ [] in
    stops k (form_checks s) rest (rw (e, f, room) at h) n)
    (λ f. rw f (rw f at h)))
    (λ e. rw e (rw e at h))

-- the first places of a table that was filled
pub front : {A : Type 0} (n : ℕ) (f : ℕ → A) (l lent : List A) → l ≡ written 0 (tab n f) lent → take n l ≡ tab n f
front n f l lent h = rw h (take_at (tab n f) (drop (length (tab n f)) lent) n (length-tab n f))

pub was_read : {s : List ℕ} {t t' : Lists} {k n m root tree : ℕ} → Read s t k n m root tree t' → k ≡ 0 → Read s t 0 n m root tree t'
was_read read z = rw z at read

-- what was read
module _ {s : List ℕ} {t t' : Lists} {n m root tree : ℕ} (read : Read s t 0 n m root tree t') where
  pub formed : WellFormed s
  formed = (well_formed s (room_ok s t) (sym read.refusal)).0

  pub few : vertex_count s ≤ 64
  few = (vertices_in (vertex_count s) formed.vertices).1

  pub n_most : n ≤ 64
  n_most = omega (arith, read.n_is, few)

  pub m_most : m ≤ 512
  m_most = omega (arith, read.m_is, formed.edges)

  -- it stands in the first places of the tables
  pub of_vertices : (f : ℕ → ℕ) (l lent : List ℕ) → l ≡ written 0 (tab (vertex_count s) f) lent → take n l ≡ tab (vertex_count s) f
  of_vertices f l lent h = rw read.n_is (front (vertex_count s) f l lent h)

  of_edges : (f : ℕ → ℕ) (l lent : List ℕ) → l ≡ written 0 (tab (edge_count s) f) lent → take m l ≡ tab (edge_count s) f
  of_edges f l lent h = rw read.m_is (front (edge_count s) f l lent h)

  pub graph_read : graph n (take m t'.lower) (take m t'.upper) (take m t'.lengths) ≡ graph_of_image s
  graph_read =
      rw (of_edges (lower_end s) _ _ read.lower_is, of_edges (upper_end s) _ _ read.upper_is, of_edges (edge_length_of s) _ _ read.lengths_are, read.n_is)

  pub amounts_read : (take n t'.mu ≡ tab (vertex_count s) (amount s 0)) × (take n t'.nu ≡ tab (vertex_count s) (amount s 1))
  amounts_read = (of_vertices (amount s 0) _ _ read.mu_is, of_vertices (amount s 1) _ _ read.nu_is)
