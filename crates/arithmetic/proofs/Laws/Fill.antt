-- A table that a loop fills from the front: the invariant of every such loop, and what it leaves.
use mathlib.Core.Path.{◌≡◌, refl, ◌∙◌}
use mathlib.Core.List.{List, ◌++◌}
use Prim.Native.Nat.{ℕ, ◌+◌, ◌≤◌, ◌<◌}
use native.Mathlib.Nat.{le_antisymm}
use native.Mathlib.Omega.{arith}
use lib.ListN.{length, drop, set, length-set}
use Rattle.arithmetic.specs.Table.{tab, written}
use Rattle.arithmetic.specs.Steps.Fill.{Filling, Filled}
use Rattle.arithmetic.proofs.Laws.Table.{length-tab, tab_none, tab_store, front_at}

-- ---- laws
pub filling_none : {A : Type 0} {n : ℕ} (f : ℕ → A) (l : List A) → n ≤ length l → Filling n f l l 0
filling_none f l h = record { low = omega arith; room = h; size = refl; front = tab_none f l }

module _ {A : Type 0} {n m : ℕ} {f : ℕ → A} {old new : List A} (w : Filling n f old new m) where
  -- one place more
  pub filling_more : {v : A} → m < n → v ≡ f m → Filling n f old (set new m v) (m + 1)
  filling_more {v} h e = record {
    low = omega arith;
    room = w.room;
    size = length-set new m v ∙ w.size;
    front = tab_store m f old new v (omega (arith, w.room)) w.front e;
  }

  -- all places
  pub filling_end : n ≤ m → new ≡ tab n f ++ drop n old
  filling_end h = rw (le_antisymm w.low h) at w.front

  pub filling_written : n ≤ m → new ≡ written 0 (tab n f) old
  filling_written h = rw (length-tab n f) (filling_end h)

-- and what can be read there
pub filled-end : {n m : ℕ} {f : ℕ → ℕ} {old new : List ℕ} → Filling n f old new m → n ≤ m → Filled n f old new
filled-end {n} {f = f} {old = old} w h = record { size = w.size; each = λ x l. rw (filling_end w h) (front_at n f old 0 x l) }
