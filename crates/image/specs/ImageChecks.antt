-- The checks of an image, in their order.
use Rattle.std.specs.Prelude.{ℕ, Bool, ◌&&◌, List, [], ◌∷◌, leb}
use Rattle.arithmetic.specs.Refusal.{Check, check}
use Rattle.graph.specs.Checks.{vertices_ok}
use Rattle.image.specs.Image.{vertex_count, edge_count, size_ok, sections_ok, layout_ok}

-- "an image passes 11, 12, 13 first"; `room` is what a call adds to 2
unfoldable pub image_checks : List ℕ → Bool → List Check
image_checks s room =
    check 11 (size_ok s) ∷ check 12 (sections_ok s) ∷ check 13 (layout_ok s)
    ∷ check 1 (vertices_ok (vertex_count s)) ∷ check 2 (leb (edge_count s) 512 && room) ∷ []

-- tables of lengths x, y and z have room for n numbers each
abbrev pub room_in : ℕ → ℕ → ℕ → ℕ → Bool
room_in n x y z = leb n x && (leb n y && leb n z)
