-- The path from a up to c, which a pivot reverses: it is walked up to the parent of c, and each vertex on it gets the vertex before it for its parent.
use mathlib.Core.Path.{◌≡◌, refl, sym, ◌∙◌}
use mathlib.Core.Bool.{true, false}
use mathlib.Core.List.{List}
use Prim.Native.Nat.{ℕ, ◌<◌}
use borrow.Author.Tests.{ne_eqb}
use Rattle.arithmetic.specs.Table.{at}
use Rattle.arithmetic.proofs.Laws.Bools.{clash, is_false, is_true, and_l}
use Rattle.rooted_tree.specs.Chain.{below}
use Rattle.rooted_tree.proofs.Laws.Rooted.{at-step, refl_b, parent_b, trans_b, out-b, comparable, parent_out}
use Rattle.tree_pivot.specs.Steps.Pivot.{Cut, Pivot}
use Rattle.tree_pivot.specs.Steps.PathWalk.{CanWalk, passed, Stored, Handed}
use Rattle.tree_pivot.proofs.Laws.Pivot.{apart}
use Rattle.tree_pivot.proofs.Laws.PathWalk.{met_not, and-not, toward_some}

-- from a up to y, and not at y, each vertex has the vertex before it for its parent, and a has b
abbrev pub ParentsTurned : ℕ → (a y b : ℕ) → (p q : List ℕ) → Type 0
ParentsTurned n a y b p q = Stored n (at p) a y (Handed n (at p) a (λ z. z) b) p q

module _ {n r : ℕ} {p : ℕ → ℕ} {a b c : ℕ} (cut : Cut n r p a b c) where
  pub over_low : p c < n
  over_low = cut.tree.into c cut.c_low

  pub can_turn : CanWalk n r p a (p c)
  can_turn = record {
    tree = cut.tree;
    from_low = cut.a_low;
    stop_low = over_low;
    up = trans_b cut.tree c (p c) a cut.a_low cut.a_in (parent_b cut.tree c cut.c_low);
  }

  -- what is above c and out of its subtree is above its parent
  pub over_c : (x : ℕ) → below p n x c ≡ false → below p n c x ≡ below p n (p c) x
  over_c x e =
      rw (
        at-step cut.tree c x cut.c_low,
        ne_eqb c x (apart (λ u. below p n u c) (refl_b cut.tree c cut.c_low) e),
      )

  -- no vertex of the subtree is above c's parent or above b
  pub not_over : (x : ℕ) → below p n x c ≡ true → below p n (p c) x ≡ false
  not_over x e = out-b cut.tree x c (p c) over_low e (parent_out cut.tree c cut.c_low (λ i. cut.c_root (sym i)))

  pub not-b : (x : ℕ) → below p n x c ≡ true → below p n b x ≡ false
  not-b x e = out-b cut.tree x c b cut.b_low e cut.b_out

  -- the vertices met are those of the subtree above a
  pub met_path : (x : ℕ) → below p n a x ≡ true → below p n x c ≡ true → passed n p a (p c) x ≡ true
  met_path x f e = and-not _ _ f (not_over x e)

  pub path_in : (x : ℕ) → passed n p a (p c) x ≡ true → below p n x c ≡ true
  path_in x h =
      is_true _ (λ e.
      clash (sym (over_c x e) ∙ comparable cut.tree x c a cut.a_low (and_l (below p n a x) _ h) cut.a_in e)
      (met_not (below p n a x) _ h))

  pub unmet_out : (x : ℕ) → below p n x c ≡ false → passed n p a (p c) x ≡ false
  unmet_out x e = is_false _ (λ h. clash (path_in x h) e)

pub turned : {n r a b c : ℕ} {p q : List ℕ} → Cut n r (at p) a b c → ParentsTurned n a (at p c) b p q → Pivot n r (at p) a b c (at q)
turned {n} {r} {a} {b} {c} {p} cut w = record {
  cut = cut;
  hung = (w.done a cut.a_low (met_path cut a (refl_b cut.tree a cut.a_low) cut.a_in)).begins refl;
  reversed = λ x l e f d.
      let z = toward_some cut.tree x a cut.a_low e d in
      rw ((w.done x l (met_path cut x e f)).passes z.0 z.1) z.1;
  side = λ x l e. w.kept x l (rw e);
  out = λ x l e. w.kept x l (unmet_out cut x e);
}
