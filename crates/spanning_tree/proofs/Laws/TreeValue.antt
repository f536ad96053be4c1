-- What a tree by value holds.
use Prim.Native.Nat.{ℕ, ◌≤◌, ◌<◌}
use mathlib.Core.Path.{◌≡◌, sym, ap, ◌∙◌, fun_ext}
use mathlib.Core.List.{List}
use native.Mathlib.Omega.{arith}
use lib.Dec.{ltb}
use lib.ListN.{length, get_or-eq_default}
use borrow.Author.Tests.{lt-ltb}
use Rattle.arithmetic.specs.Sum.{pick}
use Rattle.arithmetic.specs.Table.{at}
use Rattle.arithmetic.proofs.Laws.Bools.{case<}
use Rattle.arithmetic.proofs.Laws.Sum.{pick-zero}
use Rattle.arithmetic.proofs.Laws.Table.{tab-at, length-tab}
use Rattle.spanning_tree.specs.TreeValue.{parents_held}

-- ---- laws
module _ (n : ℕ) (parents : List ℕ) (few : n ≤ 64) where
  -- the tree has the parents of the list
  pub held_at : (x : ℕ) → x < n → at (parents_held n parents) x ≡ at parents x
  held_at x l = tab-at 64 _ 0 x (omega arith) ∙ rw (lt-ltb x n l)

  -- and nothing else, if the list has nothing else
  pub held_same : length parents ≡ n → at (parents_held n parents) ≡ at parents
  held_same long =
      fun_ext (λ x.
      case< x n (held_at x) (λ h.
      let none : at parents x ≡ 0 = get_or-eq_default parents 0 (omega arith) in
      case< x 64
      (λ l. tab-at 64 _ 0 x l ∙ ap (pick (ltb x n)) none ∙ pick-zero (ltb x n) ∙ sym none)
      (λ l. get_or-eq_default (parents_held n parents) 0 (omega (arith, length-tab 64 (λ x. pick (ltb x n) (at parents x)))) ∙ sym none)))
