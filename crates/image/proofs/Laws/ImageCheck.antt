-- What follows from the checks of an image.
use Prim.Native.Nat.{ℕ, ◌≤◌}
use mathlib.Core.Path.{◌≡◌, refl}
use mathlib.Core.Bool.{Bool, true}
use mathlib.Core.List.{List}
use lib.ListN.{length}
use borrow.Author.Tests.{leb-true, le-leb}
use Rattle.arithmetic.specs.Refusal.{refusal}
use Rattle.arithmetic.proofs.Laws.Bools.{and_l, and_r, eqb_self}
use Rattle.arithmetic.proofs.Laws.Table.{length-tab}
use Rattle.arithmetic.proofs.Laws.Refusal.{test_of, numbered, every_holds}
use Rattle.graph.specs.Checks.{vertices_ok, lists_fit, lists_ok}
use Rattle.image.specs.Image.{vertex_count, edge_count, first_offset, size_ok, sections_ok, layout_ok, lower_end, upper_end, edge_length_of}
use Rattle.image.specs.ImageChecks.{image_checks}
use Rattle.image.specs.Contents.{graph_of_image}

pub sized : (s : List ℕ) → size_ok s ≡ true → first_offset s ≤ length s
unfolding size_ok
sized s h = search (leb-true, and_l)

-- what an image has that passes checks 11, 12, 13, 1 and 2
pub record WellFormed (s : List ℕ) : Type 0 where
  pub size : size_ok s ≡ true
  pub sections : sections_ok s ≡ true
  pub layout : layout_ok s ≡ true
  pub vertices : vertices_ok (vertex_count s) ≡ true
  pub edges : edge_count s ≤ 512

-- the checks refuse nothing: the image is well-formed, and the call's tables have room
pub well_formed : (s : List ℕ) (room : Bool) → refusal (image_checks s room) ≡ 0 → WellFormed s × (room ≡ true)
unfolding image_checks test_of numbered
well_formed s room h =
    let k = every_holds (image_checks s room) refl h in
    let two = k 2 in
    (record { size = k 11; sections = k 12; layout = k 13; vertices = k 1; edges = search (leb-true, and_l) }, search and_r)

-- and the other way round
pub image_passes : {s : List ℕ} → WellFormed s → refusal (image_checks s true) ≡ 0
unfolding image_checks refusal
image_passes {s} a = rw (a.size, a.sections, a.layout, a.vertices, le-leb (edge_count s) 512 a.edges)

-- the lists of an image's graph have the lengths that check 2 asks for
pub lists_read : (s : List ℕ) → edge_count s ≤ 512 → lists_ok (graph_of_image s) ≡ true
unfolding lists_fit
lists_read s h = rw (
  length-tab (edge_count s) (lower_end s),
  length-tab (edge_count s) (upper_end s),
  length-tab (edge_count s) (edge_length_of s),
  le-leb (edge_count s) 512 h,
  eqb_self (edge_count s),
)

pub images_numbered : (s : List ℕ) (room : Bool) → numbered (image_checks s room) ≡ true
unfolding image_checks numbered
images_numbered s room = refl
