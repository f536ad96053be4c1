-- What the reader may rely on after its checks, and how it ends.
use Prim.Native.Nat.{ℕ, ◌+◌, ◌*◌, ◌≤◌, ◌<◌}
use mathlib.Core.Path.{◌≡◌, sym, ◌∙◌}
use mathlib.Core.Bool.{true, ◌||◌, ◌&&◌}
use mathlib.Core.List.{List}
use native.Mathlib.Omega.{arith}
use lib.ListN.{length}
use lib.Dec.{eqb, leb}
use borrow.Author.Tests.{leb-true, eqb-true, ne_eqb}
use Rattle.arithmetic.proofs.Laws.Bools.{all-at, and_l, and_r, or_right}
use Rattle.refusals.specs.declared.Refusal.{Refusal}
use Rattle.refusals.specs.Refusals.{number}
use Rattle.refusals.proofs.Laws.Outcome.{no_result, kept}
use Rattle.graph.proofs.Laws.Accepted.{vertices_in}
use Rattle.directory.specs.Directory.{end_in, pair_ok}
use Rattle.arithmetic.specs.Refusal.{refusal}
use Rattle.image.specs.ImageChecks.{image_checks, room_in}
use Rattle.image.specs.Image.{vertex_count, edge_count, section_count, tree_section, extent, section_ok, sections_ok, layout_ok}
use Rattle.image.proofs.Laws.ImageCheck.{WellFormed, well_formed, sized}
use Rattle.image_reader.specs.Read.{Lists, read_refusal, Read}
use Rattle.image_reader.specs.Steps.Held.{Held, Least}

module _ (s : List ℕ) where
  -- a section ends within the image
  section-end : sections_ok s ≡ true → (t : ℕ) → t < section_count s → end_in 4 s t ≤ length s
  unfolding pair_ok
  section-end h t l = let z = all-at (section_count s) (section_ok s) h t l in search (leb-true, and_r)

  -- each section is there whole
  held : WellFormed s → Held s
  unfolding layout_ok
  held a =
      let h = a.layout in
      let ends = section-end a.sections in
      let tree = extent s (tree_section s) in
      let e0 : extent s 0 ≡ 4 * edge_count s = search (eqb-true, and_l, and_r) in
      let e1 : extent s 1 ≡ 4 * vertex_count s = search (eqb-true, and_l, and_r) in
      let e2 : extent s 2 ≡ 4 * vertex_count s = search (eqb-true, and_l, and_r) in
      let e3 : eqb tree 0 || eqb tree (vertex_count s + 1) ≡ true = search and_r in
      record {
        vertices_few = (vertices_in (vertex_count s) a.vertices).1;
        edges_few = a.edges;
        header = sized s a.size;
        edges = omega (arith, ends 0 (omega arith));
        mu = omega (arith, ends 1 (omega arith));
        nu = omega (arith, ends 2 (omega arith));
        tree = λ ne.
            omega (arith, ends (tree_section s) (omega arith), eqb-true tree (vertex_count s + 1) (or_right (eqb tree 0) _ e3 (ne_eqb tree 0 ne)));
      }

-- tables of lengths x, y and z have room for n numbers each
pub record Room (n x y z : ℕ) : Type 0 where
  pub first : n ≤ x
  pub second : n ≤ y
  pub third : n ≤ z

roomy : (n x y z : ℕ) → room_in n x y z ≡ true → Room n x y z
roomy n x y z h = search (leb-true, and_l, and_r)

-- the checks pass, where e and v are the room for edges and for vertices
pub passed : {s : List ℕ} {e x y z v x' y' z' : ℕ} → Least e x y z → Least v x' y' z'
    → 0 ≡ refusal (image_checks s (leb (edge_count s) e && leb (vertex_count s) v))
    → Held s × Room (edge_count s) x y z × Room (vertex_count s) x' y' z'
passed {s} {e} {x} {y} {z} {v} {x'} {y'} {z'} he hv h =
    let w = well_formed s _ (sym h) in (
      held s w.0,
      roomy _ x y z (sym (he.tests (edge_count s)) ∙ and_l _ (leb (vertex_count s) v) w.1),
      roomy _ x' y' z' (sym (hv.tests (vertex_count s)) ∙ and_r (leb (edge_count s) e) _ w.1),
    )

-- they are the reader's
pub checked : (s : List ℕ) (k : ℕ) {e x y z v x' y' z' : ℕ} → Least e x y z → Least v x' y' z'
    → k ≡ refusal (image_checks s (leb (edge_count s) e && leb (vertex_count s) v))
    → k ≡ refusal (image_checks s (room_in (edge_count s) x y z && room_in (vertex_count s) x' y' z'))
checked s k {e} {v = v} he hv h = rw (he.tests (edge_count s), hv.tests (vertex_count s)) at h

-- after a refusal nothing is read
pub refused : (s : List ℕ) (t : Lists) (r : Refusal) → number r ≡ read_refusal s t → Read s t (number r) 0 0 0 0 t
refused s t r h = record {
  refusal = h;
  n_is = no_result r _;
  m_is = no_result r _;
  root_is = no_result r _;
  tree_is = no_result r _;
  lower_is = kept r _ _;
  upper_is = kept r _ _;
  lengths_are = kept r _ _;
  mu_is = kept r _ _;
  nu_is = kept r _ _;
  parents_are = kept r _ _;
}
