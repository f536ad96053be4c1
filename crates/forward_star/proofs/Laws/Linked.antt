-- Arcs linked by where they start.
use Prim.Native.Nat.{ℕ, zero, suc, ◌+◌, ◌*◌, ◌/◌, ◌%◌, ◌≤◌, ◌<◌}
use mathlib.Core.Path.{◌≡◌, sym, ap, ◌∙◌}
use mathlib.Core.List.{List}
use native.Mathlib.Numerals.{add-one}
use native.Mathlib.Omega.{arith}
use lib.ListN.{set, replicate, length-set, length-replicate}
use Rattle.std.proofs.lemmas.List.{get_or-replicate}
use lib.Seq.{get_or-set_same, get_or-set_other}
use borrow.Author.Tests.{ne_eqb, eq-eqb}
use borrow.Author.Count.{below_none, below_more}
use Rattle.arithmetic.specs.Table.{at}
use Rattle.arithmetic.proofs.Laws.Bools.{case≡}
use Rattle.forward_star.specs.Steps.Linked.{tail, latest, Linked}

-- ---- the two arcs of an edge
module _ (a b : List ℕ) where
  pub tail_even : (k : ℕ) → k % 2 ≡ 0 → tail a b k ≡ at a (k / 2)
  unfolding tail
  tail_even k h = rw (eq-eqb (k % 2) 0 h)

  pub tail_odd : (k : ℕ) → k % 2 ≡ 1 → tail a b k ≡ at b (k / 2)
  unfolding tail
  tail_odd k h = rw (ne_eqb (k % 2) 0 (λ e. omega arith))

  pub tail_up : (e : ℕ) → tail a b (2 * e) ≡ at a e
  tail_up e = let h : 2 * e / 2 ≡ e = omega arith in tail_even (2 * e) (omega arith) ∙ ap (at a) h

  pub tail_down : (e : ℕ) → tail a b (2 * e + 1) ≡ at b e
  tail_down e = let h : (2 * e + 1) / 2 ≡ e = omega arith in tail_odd (2 * e + 1) (omega arith) ∙ ap (at b) h

-- ---- the last arc at a vertex
module _ (f : ℕ → ℕ) (x : ℕ) where
  pub latest_most : (k : ℕ) → latest f x k ≤ k
  unfolding latest
  latest_most zero = omega arith
  latest_most (suc k) = case≡ (f k) x (λ e. rw (eq-eqb _ _ e) (omega arith)) (λ d. rw (ne_eqb _ _ d) (omega (arith, latest_most k)))

  -- it starts at the vertex
  pub latest_starts : (k i : ℕ) → latest f x k ≡ i + 1 → f i ≡ x
  unfolding latest
  latest_starts zero i h = absurd (omega arith)
  latest_starts (suc k) i h =
      case≡ (f k) x
      (λ q. let same : i ≡ k = omega (arith, rw (eq-eqb _ _ q) at h) in rw same q)
      (λ d. latest_starts k i (rw (ne_eqb _ _ d) at h))

  -- and no later one does
  pub latest_last : (k i : ℕ) → latest f x k ≤ i → i < k → f i ≡ x → ⊥
  unfolding latest
  latest_last zero i h l q = omega arith
  latest_last (suc k) i h l q =
      case≡ (f k) x
      (λ p. omega (arith, rw (eq-eqb _ _ p) at h))
      (λ d. case≡ i k (λ s. d (rw s at q)) (λ s. latest_last k i (rw (ne_eqb _ _ d) at h) (omega arith) q))

  -- one arc more, as code counts
  latest_this : (k : ℕ) → f k ≡ x → k + 1 ≡ latest f x (k + 1)
  unfolding latest
  latest_this k e = rw (add-one, eq-eqb _ _ e)

  latest_other : (k : ℕ) → (f k ≡ x → ⊥) → latest f x k ≡ latest f x (k + 1)
  unfolding latest
  latest_other k d = rw (add-one, ne_eqb _ _ d)

-- ---- linking
pub linked_none : (a b : List ℕ) → Linked (tail a b) (2 * 0) (replicate 64 0) (replicate 1024 0)
unfolding latest
linked_none a b = record {
  last_long = omega (arith, length-replicate {A = ℕ} 64 0);
  before_long = omega (arith, length-replicate {A = ℕ} 1024 0);
  last_is = λ x l. get_or-replicate 64 x 0 0 l;
  before_is = below_none _;
}

linked_more : {f : ℕ → ℕ} {k : ℕ} {last before : List ℕ} → Linked f k last before → (x : ℕ) → f k ≡ x → x < 64 → k < 1024
    → Linked f (k + 1) (set last x (k + 1)) (set before k (at last x))
linked_more {f} {k} {last} {before} w x here h few = record {
  last_long = omega (arith, length-set last x (k + 1), w.last_long);
  before_long = omega (arith, length-set before k (at last x), w.before_long);
  last_is = λ y i.
      case≡ y x
      (λ e. rw (e, get_or-set_same last x (k + 1) 0 (omega (arith, w.last_long))) (latest_this f x k here))
      (λ d. rw (get_or-set_other last x y (k + 1) 0 d) (w.last_is y i ∙ latest_other f y k (λ e. d (sym e ∙ here))));
  before_is =
      below_more (λ i. at (set before k (at last x)) i ≡ latest f (f i) i) k
      (λ i l. get_or-set_other before k i (at last x) 0 (omega arith) ∙ w.before_is i l)
      (get_or-set_same before k (at last x) 0 (omega (arith, w.before_long)) ∙ w.last_is x h ∙ ap (λ (y : ℕ). latest f y k) (sym here));
}

-- both arcs of edge e
pub linked_edge : (a b : List ℕ) {e : ℕ} {last before : List ℕ} → Linked (tail a b) (2 * e) last before → at a e < 64 → at b e < 64 → e < 512
    → (last₁ before₁ last₂ before₂ : List ℕ) → last₁ ≡ set last (at a e) (2 * e + 1) → before₁ ≡ set before (2 * e) (at last (at a e))
    → last₂ ≡ set last₁ (at b e) ((2 * e + 1) + 1) → before₂ ≡ set before₁ (2 * e + 1) (at last₁ (at b e))
    → Linked (tail a b) (2 * (e + 1)) last₂ before₂
linked_edge a b {e} w la lb few last₁ before₁ last₂ before₂ p q r s =
    let up : Linked (tail a b) (2 * e + 1) last₁ before₁ = rw (p, q) (linked_more w (at a e) (tail_up a b e) la (omega arith)) in
    let next : 2 * (e + 1) ≡ (2 * e + 1) + 1 = omega arith in
    rw (next, r, s) (linked_more up (at b e) (tail_down a b e) lb (omega arith))
