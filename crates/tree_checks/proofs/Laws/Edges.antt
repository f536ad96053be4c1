-- Noting the edges between vertices and their parents.
use mathlib.Core.Path.{◌≡◌, refl, sym, ap, ◌∙◌}
use mathlib.Core.Bool.{or-false, or_assoc, and_comm, Bool, true, false, ◌||◌}
use mathlib.Core.Logic.{◌⊎◌, ⊎_elim}
use mathlib.Core.List.{List, [], ◌∷◌}
use Prim.Native.Nat.{ℕ, zero, suc, ◌+◌, ◌<◌}
use lib.Dec.{eqb}
use lib.ListN.{length, set, length-set}
use lib.Seq.{get_or-set_same, get_or-set_other}
use borrow.Author.Tests.{eq-eqb, ne_eqb, eqb-true}
use Rattle.arithmetic.specs.Bools.{all}
use Rattle.arithmetic.specs.Table.{at}
use Rattle.arithmetic.proofs.Laws.Bools.{case, case≡, clash, is_false, and_l, and_r, eqb_self, all-at, all_ext, all_more, all_fails, or-true_l, or_right, or_true_r, any_none, any_step}
use Rattle.graph.specs.Graph.{Graph, edges, joins, joined, edge_length}
use Rattle.graph.specs.Checks.{edges_ok, marked}
use Rattle.graph.proofs.Laws.Edge.{edge-length}
use Rattle.tree_checks.specs.Checks.{tree_edges_ok}
use Rattle.tree_checks.specs.Steps.ParentEdges.{unmarked, hangs, Noted, NotedTo, Lengths}

-- ---- one edge, at one of its ends
module _ (p : ℕ → ℕ) (x y s : ℕ) (above : List ℕ) (marks : List Bool) where
  pub noted_yes : p x ≡ y → x < length above → x < length marks → Noted p x y s above (set above x s) marks (set marks x true)
  noted_yes e h k = record {
    size = length-set above x _;
    size_marks = length-set marks x true;
    each = λ z. case≡ z x
        (λ q. rw (q, get_or-set_same above x s 0 h, eqb_self x, eq-eqb y (p x) (sym e)))
        (λ d. rw (get_or-set_other above x z s 0 d, ne_eqb x z (λ q. d (sym q))));
    mark = λ z. case≡ z x
        (λ q. rw (q, get_or-set_same marks x true false k, eqb_self x, eq-eqb y (p x) (sym e)) (sym (or_true_r (marked marks x) true refl)))
        (λ d. rw (get_or-set_other marks x z true false d, ne_eqb x z (λ q. d (sym q))) (sym (or-false (marked marks z))));
  }

  pub noted_no : (p x ≡ y → ⊥) → Noted p x y s above above marks marks
  noted_no d = record {
    size = refl;
    size_marks = refl;
    each = λ z. rw (apart z);
    mark = λ z. rw (apart z) (sym (or-false (marked marks z)));
  }
    where
      apart : (z : ℕ) → hangs p x y z ≡ false
      apart z = is_false _ (λ h.
          let e = eqb-true x z (and_l (eqb x z) _ h) in
          let f = eqb-true y (p z) (and_r (eqb x z) _ h) in
          d (ap p e ∙ sym f))

-- ---- an edge, at both of its ends
unmarked-at : (l : List Bool) → unmarked l ≡ true → (x : ℕ) → marked l x ≡ false
unmarked-at [] h x = refl
unmarked-at (true ∷ l) h x = clash refl (sym h)
unmarked-at (false ∷ l) h zero = refl
unmarked-at (false ∷ l) h (suc x) = unmarked-at l h x

module _ (g : Graph) (p : ℕ → ℕ) where
  pub noted_none : (above : List ℕ) (marks : List Bool) → unmarked marks ≡ true → NotedTo g p 0 above above marks marks
  noted_none above marks h = record {
    size = refl;
    size_marks = refl;
    each = λ x l e. clash e (unmarked-at marks h x);
    mark = λ x l. unmarked-at marks h x ∙ sym (any_none _);
  }

  module _ (ok : edges_ok g ≡ true) (m : ℕ) (here : m < edges g) {old above : List ℕ} {old-marks marks : List Bool}
      (w : NotedTo g p m old above old-marks marks) where
    pub noted_more : {above' above'' : List ℕ} {marks' marks'' : List Bool}
        → Noted p (at g.lower m) (at g.upper m) (at g.lengths m) above above' marks marks'
        → Noted p (at g.upper m) (at g.lower m) (at g.lengths m) above' above'' marks' marks''
        → NotedTo g p (m + 1) old above'' old-marks marks''
    noted_more {marks'' = marks''} u v = record {
      size = v.size ∙ u.size ∙ w.size;
      size_marks = v.size_marks ∙ u.size_marks ∙ w.size_marks;
      each = λ x k e. v.each x ∙ case (hangs p t s x)
          (λ h. rw h (long x (or_true_r (hangs p s t x) _ (rw and_comm at h))))
          (λ h. rw h (u.each x ∙ case (hangs p s t x)
          (λ f. rw f (long x (or-true_l _ _ f)))
          (λ f. rw f (w.each x k (sym (u.mark x ∙ rw (f, or-false) refl) ∙ sym (v.mark x ∙ rw (h, or-false) refl) ∙ e)))));
      mark = λ x k.
          v.mark x ∙ ap (λ (b : Bool). b || hangs p t s x) (u.mark x ∙ ap (λ (b : Bool). b || hangs p s t x) (w.mark x k))
          ∙ rw (or_assoc, and_comm (eqb t x)) (sym (any_step m (λ e. joins g e x (p x))));
    }
      where
        s : ℕ
        s = at g.lower m

        t : ℕ
        t = at g.upper m

        long : (x : ℕ) → joins g m x (p x) ≡ true → at g.lengths m ≡ edge_length g x (p x)
        long x h = sym (edge-length g ok x (p x) m here h)

  -- ---- all edges
  module _ {old above : List ℕ} {old-marks marks : List Bool} (w : NotedTo g p (edges g) old above old-marks marks) (r : ℕ) where
    pub noted_answer : all g.n (λ x. eqb x r || marked marks x) ≡ tree_edges_ok g r p
    unfolding tree_edges_ok joined
    noted_answer =
        all_ext g.n (λ x. eqb x r || marked marks x) (λ x. eqb x r || joined g x (p x))
        (λ x l. ap (λ (b : Bool). eqb x r || b) (w.mark x l))

    pub noted_lengths : all g.n (λ x. eqb x r || marked marks x) ≡ true → Lengths g r p old above
    noted_lengths h = record {
      size = w.size;
      each = λ x l d. w.each x l (or_right (eqb x r) _ (all-at g.n (λ x. eqb x r || marked marks x) h x l) (ne_eqb x r d));
    }

-- ---- all marks
module _ (r : ℕ) (marks : List Bool) (x : ℕ) where
  pub mark_more : all x (λ z. eqb z r || marked marks z) ≡ true → (x ≡ r) ⊎ (marked marks x ≡ true)
      → all (x + 1) (λ z. eqb z r || marked marks z) ≡ true
  mark_more h =
      ⊎_elim
      (λ e. all_more x (λ z. eqb z r || marked marks z) h (or-true_l (eqb x r) _ (eq-eqb x r e)))
      (λ e. all_more x (λ z. eqb z r || marked marks z) h (or_true_r (eqb x r) _ e))

  pub mark_fails : (n : ℕ) → x < n → (x ≡ r → ⊥) → marked marks x ≡ false → false ≡ all n (λ z. eqb z r || marked marks z)
  mark_fails n l d f = sym (all_fails n (λ z. eqb z r || marked marks z) x l (ap (λ (b : Bool). b || marked marks x) (ne_eqb x r d) ∙ f))
