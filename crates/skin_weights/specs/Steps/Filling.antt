-- A list filled with what a function, given as code, makes of the items of another.
use Rattle.std.specs.Prelude.{◌≡◌, ℕ, ◌<◌, List, length, slice_index_or}

-- what `post` says of each item is g's
abbrev pub Makes : {A B : Type 0} → (post : A → B → Type 0) → List A → (ℕ → B) → Type 0
Makes {A} {B} post items g = (i : ℕ) (x : A) (y : B) → i < length items → x ≡ slice_index_or items i x → post x y → y ≡ g i
