-- What the library's slice methods leave, in the words of tables: copies, fills, and tests of all entries. An answer cites them beside the
-- library's own rules, as `search (rules, take_tab, length-tab)`, or `all_entries _ _ (λ i. ..) (search rules)`.
use mathlib.Core.Path.{◌≡◌, refl, sym}
use mathlib.Core.Bool.{Bool, true, false, true≢false}
use mathlib.Core.List.{List, ◌++◌}
use Prim.Native.Nat.{ℕ, ◌≤◌}
use native.Mathlib.Omega.{arith}
use Rattle.std.specs.Prelude.{◌↔◌, IsTrue, EachIndex, length, take, drop, replicate}
use lib.ListN.{length-append, length-drop}
use Rattle.std.proofs.lemmas.List.{length-take-le, get_or-take, length-replicate, get_or-replicate}
use Rattle.arithmetic.specs.Bools.{all}
use Rattle.arithmetic.specs.Table.{at, tab}
use Rattle.arithmetic.specs.Steps.Fill.{Filled}
use Rattle.arithmetic.proofs.Laws.Bools.{is_false, all_intro, all-at}
use Rattle.arithmetic.proofs.Laws.Table.{tab_is, length-tab, front_at}

-- `copy_from_slice` of the first n numbers
pub take_tab : (n : ℕ) (l : List ℕ) → n ≤ length l → take n l ≡ tab n (at l)
take_tab n l h = sym (tab_is n (at l) (take n l) (length-take-le n l h) (λ i k. sym (get_or-take n l i 0 k)))

-- `fill`
pub replicate_tab : (n v : ℕ) → replicate n v ≡ tab n (λ _. v)
replicate_tab n v = sym (tab_is n (λ _. v) (replicate n v) (length-replicate n v) (λ i k. sym (get_or-replicate n i v 0 k)))

-- the same where nothing is said of the other places
pub filled_front : {n : ℕ} {f : ℕ → ℕ} {old new : List ℕ} → n ≤ length old → new ≡ tab n f ++ drop n old → Filled n f old new
filled_front {n} {f} {old} h e = record {
  size = rw (e, length-append (tab n f) (drop n old), length-tab n f, length-drop n old) (omega arith);
  each = λ x l. rw e (front_at n f old 0 x l);
}

-- `all`
pub all_entries : (b : Bool) (l : List ℕ) (p : ℕ → Bool) → (IsTrue b ↔ EachIndex l (λ k. IsTrue (p k))) → b ≡ all (length l) p
all_entries true l p h = sym (all_intro (length l) p (h.0 refl))
all_entries false l p h = sym (is_false (all (length l) p) (λ e. true≢false (sym (h.1 (all-at (length l) p e)))))
