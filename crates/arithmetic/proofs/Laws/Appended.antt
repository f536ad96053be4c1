-- Lists one behind the other.
use mathlib.Core.Path.{◌≡◌, refl}
use mathlib.Core.List.{List}
use Prim.Native.Nat.{ℕ, zero, suc, ◌<◌}
use native.Mathlib.Omega.{arith}
use lib.ListN.{length, length-append}
use Rattle.arithmetic.specs.Sum.{sum}
use Rattle.arithmetic.specs.Table.{tab, rows, appended}

pub length-appended : {A : Type 0} (c : ℕ) (f : ℕ → List A) → length (appended c f) ≡ sum c (λ i. length (f i))
unfolding appended sum
length-appended zero f = refl
length-appended (suc c) f = rw (length-append, length-appended c f)

pub appended_ext : {A : Type 0} (c : ℕ) (f g : ℕ → List A) → ((i : ℕ) → i < c → f i ≡ g i) → appended c f ≡ appended c g
unfolding appended
appended_ext zero f g h = refl
appended_ext (suc c) f g h = rw (appended_ext c f g (λ i l. h i (omega arith)), h c (omega arith))

-- rows are tables one behind the other
pub rows-appended : {A : Type 0} (n k : ℕ) (f : ℕ → ℕ → A) → rows n k f ≡ appended k (λ i. tab n (f i))
unfolding rows appended
rows-appended n zero f = refl
rows-appended n (suc k) f = rw (rows-appended n k f)
