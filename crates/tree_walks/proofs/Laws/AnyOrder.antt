-- The climbs from all vertices, in any order.
use mathlib.Core.Path.{◌≡◌, refl, sym, ap, ◌∙◌}
use mathlib.Core.Bool.{Bool, false, ◌&&◌, ◌||◌, or-false, or_assoc, and-or_distrib_right}
use mathlib.Core.List.{List, [], ◌∷◌}
use Prim.Native.Nat.{ℕ, ◌<◌}
use native.Mathlib.Omega.{arith}
use lib.Dec.{eqb, ltb}
use lib.ListN.{length}
use borrow.Author.Tests.{ne_eqb, lt-ltb}
use Rattle.arithmetic.specs.Table.{at}
use Rattle.arithmetic.specs.Mask.{mask}
use Rattle.arithmetic.proofs.Laws.Bools.{case, case≡, case<, eqb_self}
use Rattle.arithmetic.proofs.Laws.Mask.{mask_ext}
use Rattle.arithmetic.proofs.Laws.Table.{front_at, front_length}
use Rattle.rooted_tree.specs.Chain.{below}
use Rattle.vertex_set.proofs.Laws.Words.{mask_empty, or_vertex}
use Rattle.tree_walks.specs.MarkAncestors.{mark_refusal, marked_word, mark_table, mark_each, listed}
use Rattle.tree_walks.proofs.Laws.Marking.{mark_sizes, mark_none, mark_some}

module _ (n r : ℕ) (parents : List ℕ) where
  -- the checks know of the words their number alone
  same_refusal : (words new : List ℕ) → length new ≡ length words → mark_refusal n r parents new ≡ mark_refusal n r parents words
  unfolding mark_refusal
  same_refusal words new e = rw e

  module _ (words : List ℕ) (h : mark_refusal n r parents words ≡ 0) (y : ℕ) where
    mark_length : length (mark_table n r parents y words) ≡ length words
    mark_length =
        case< y n
        (λ l. ap length (mark_some n r parents words h y l) ∙ front_length n _ words (mark_sizes n r parents words h).1.1)
        (λ l. ap length (mark_none n r parents words h y l))

    -- the climb from y puts y into the word of x
    mark_word : (x : ℕ) → x < n → (f : ℕ → Bool) → at words x ≡ mask n f
        → at (mark_table n r parents y words) x ≡ mask n (λ z. f z || (eqb z y && below (at parents) n z x))
    mark_word x k f e =
        case< y n
        (λ l. rw (mark_some n r parents words h y l, front_at n (marked_word n (at parents) y words) words 0 x k, e)
        (case (below (at parents) n y x)
        (λ b. rw b (or_vertex n f y l ∙ mask_ext n _ _ (λ z _. case≡ z y (λ q. rw (q, b, eqb_self y)) (λ d. rw (ne_eqb z y d)))))
        (λ b. rw b (mask_ext n _ _ (λ z _. case≡ z y (λ q. rw (q, b, eqb_self y, or-false)) (λ d. rw (ne_eqb z y d, or-false)))))))
        (λ l. rw (mark_none n r parents words h y l, e) (mask_ext n _ _ (λ z j. rw (ne_eqb z y (λ q. omega arith), or-false))))

  -- and those from the vertices of a list put them all
  each_word : (ys words : List ℕ) → mark_refusal n r parents words ≡ 0 → (x : ℕ) → x < n → (f : ℕ → Bool) → at words x ≡ mask n f
      → at (mark_each n r parents ys words) x ≡ mask n (λ z. f z || (listed ys z && below (at parents) n z x))
  unfolding mark_each listed
  each_word [] words h x k f e = e ∙ mask_ext n _ _ (λ z _. sym (or-false (f z)))
  each_word (y ∷ ys) words h x k f e =
      each_word ys _ (same_refusal words _ (mark_length words h y) ∙ h) x k _ (mark_word words h y x k f e)
      ∙ mask_ext n _ _ (λ z _. or_assoc (f z) _ _
      ∙ ap (λ (b : Bool). f z || b) (sym (and-or_distrib_right (eqb z y) (listed ys z) (below (at parents) n z x))))

-- "Climbing once from each vertex, in any order, on words of 0 gives the words": for a list of every vertex below n and no other number
pub any_order : (n r : ℕ) (parents words ys : List ℕ) → mark_refusal n r parents words ≡ 0 → ((x : ℕ) → x < n → at words x ≡ 0)
    → ((v : ℕ) → listed ys v ≡ ltb v n)
    → (x : ℕ) → x < n → at (mark_each n r parents ys words) x ≡ mask n (λ y. below (at parents) n y x)
any_order n r parents words ys h zeros all x k =
    each_word n r parents ys words h x k (λ _. false) (zeros x k ∙ sym (mask_empty n _ (λ _ _. refl)))
    ∙ mask_ext n _ _ (λ y l. rw (all y, lt-ltb y n l))
