-- The call that climbs from one vertex: what its checks leave, and the words that a climb makes.
use mathlib.Core.Path.{◌≡◌, refl, sym, ap, ◌∙◌}
use mathlib.Core.Bool.{◌&&◌, ◌||◌, or-false}
use mathlib.Core.List.{List, ◌++◌}
use Prim.Native.Nat.{ℕ, ◌+◌, ◌-◌, ◌≤◌, ◌<◌}
use native.Mathlib.Omega.{arith}
use lib.Dec.{eqb, leb}
use lib.ListN.{length, drop, get_or}
use lib.Seq.{ext_get_or, get_or-drop}
use borrow.Author.Tests.{eqb-true, leb-true, lt-ltb, le-ltb}
use Rattle.arithmetic.specs.Steps.Mask.{bit}
use Rattle.arithmetic.specs.Table.{at, tab}
use Rattle.arithmetic.proofs.Laws.Bools.{case, case<, and_l, and_r, is_false}
use Rattle.arithmetic.proofs.Laws.Refusal.{test_of, numbered, every_holds}
use Rattle.arithmetic.proofs.Laws.Table.{written_refused, length-tab, front_at, front_length, front_rest}
use Rattle.vertex_set.proofs.Laws.Words.{or-bit}
use Rattle.rooted_tree.specs.Chain.{below}
use Rattle.rooted_tree.specs.Steps.Rooted.{Rooted}
use Rattle.rooted_tree.proofs.Laws.Rooted.{above_in}
use Rattle.graph.proofs.Laws.Accepted.{vertices_in}
use Rattle.tree_checks.proofs.Laws.TreeTests.{tests_rooted}
use Rattle.tree_walks.specs.MarkAncestors.{mark_refusal, marked_word, marked_words, mark_table}
use Rattle.tree_walks.specs.Steps.Walk.{WalkedUp}

module _ (n r : ℕ) (parents words : List ℕ) where
  pub mark_refused : (y k : ℕ) → k ≡ mark_refusal n r parents words → (k ≡ 0 → ⊥) → words ≡ mark_table n r parents y words
  unfolding mark_table
  mark_refused y k e d = rw (← e) (written_refused k _ words d)

  module _ (h : mark_refusal n r parents words ≡ 0) where
    pub mark_sizes : ((0 < n) × (n ≤ 64)) × ((length parents ≡ n) × (n ≤ length words))
    unfolding mark_refusal test_of numbered
    mark_sizes =
        let k = every_holds _ refl h in (
          vertices_in n (k 1),
          (eqb-true _ _ (and_l (eqb (length parents) n) _ (k 2)), leb-true _ _ (and_r (eqb (length parents) n) (leb n (length words)) (k 2))),
        )

    pub mark_rooted : Rooted n r (at parents)
    unfolding mark_refusal test_of numbered
    mark_rooted = let k = every_holds _ refl h in tests_rooted n r (at parents) (k 8) (k 10)

    pub mark_none : (y : ℕ) → n ≤ y → mark_table n r parents y words ≡ words
    unfolding mark_table marked_words
    mark_none y l = rw (h, le-ltb y n l)

    pub mark_some : (y : ℕ) → y < n → mark_table n r parents y words ≡ tab n (marked_word n (at parents) y words) ++ drop n words
    unfolding mark_table marked_words
    mark_some y l = rw (h, lt-ltb y n l, length-tab n (marked_word n (at parents) y words))

    -- "it sets y's bit in the word of each x that y is below and changes no other bit". Not cited: shows that `marked_word` means it
    pub one_bit : (x y z : ℕ) → x < n → y < n → z < 64
        → bit (at (mark_table n r parents y words) x) z ≡ bit (at words x) z || (below (at parents) n y x && eqb z y)
    one_bit x y z k l j =
        rw (mark_some y l, front_at n (marked_word n (at parents) y words) words 0 x k)
        (case (below (at parents) n y x)
        (λ e. rw e (or-bit 64 (at words x) y z (omega (arith, mark_sizes)) j))
        (λ e. rw (e, or-false)))

-- places from n on are as lent
rest_at : (n : ℕ) (f : ℕ → ℕ) (lent : List ℕ) (x : ℕ) → n ≤ x → at (tab n f ++ drop n lent) x ≡ at lent x
rest_at n f lent x h = go (x - n) (omega arith)
  where
    go : (i : ℕ) → x ≡ n + i → at (tab n f ++ drop n lent) x ≡ at lent x
    go i e =
        rw e (sym (get_or-drop n (tab n f ++ drop n lent) i 0) ∙ ap (λ (l : List ℕ). get_or l i 0) (front_rest n f lent) ∙ get_or-drop n lent i 0)

-- the climb from y makes the words of the call
pub walked_words : {n r : ℕ} {p : ℕ → ℕ} (t : Rooted n r p) {y : ℕ} {words new : List ℕ} → y < n → n ≤ length words
    → WalkedUp n p y words new → new ≡ tab n (marked_word n p y words) ++ drop n words
walked_words {n} {p = p} t {y} {words = words} l room w =
    ext_get_or 0 _ _ (w.size ∙ sym (front_length n _ words room)) (λ x _. w.each x ∙ sym (case< x n
    (λ k. front_at n (marked_word n p y words) words 0 x k)
    (λ k. rw (is_false (below p n y x) (λ e. omega (arith, above_in t x y l e))) (rest_at n (marked_word n p y words) words x k))))
