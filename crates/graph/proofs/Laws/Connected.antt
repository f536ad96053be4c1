-- Check 5 is exact: a graph is connected where each vertex has a path from vertex 0. As long as a round of marking changes anything it marks
-- one vertex more, so n rounds mark all that can be reached.
use Prim.Native.Nat.{ℕ, zero, suc, ◌+◌, ◌*◌, ◌≤◌, ◌<◌}
use mathlib.Core.Path.{◌≡◌, refl, sym, ap, ◌∙◌}
use mathlib.Core.Bool.{Bool, true, false, not, ◌&&◌, ◌||◌}
use mathlib.Core.List.{List}
use mathlib.Core.Logic.{◌⊎◌, inl, inr, ⊎_elim}
use native.Mathlib.Omega.{arith}
use lib.Dec.{eqb}
use lib.ListN.{length, get_or-eq_default}
use borrow.Author.Tests.{eqb-true, eq-eqb, not-true}
use Rattle.arithmetic.specs.Bools.{any}
use Rattle.arithmetic.specs.Sum.{sum, pick}
use Rattle.arithmetic.specs.Table.{at}
use Rattle.arithmetic.proofs.Laws.Bools.{case, case<, clash, is_true, all-at, all_intro, any_at, any_intro, and_l, and_r, and-true, or_elim, or-true_l, or_true_r}
use Rattle.arithmetic.proofs.Laws.Sum.{sum_lt, sum_ge, sum-le-mul, pick-le}
use Rattle.arithmetic.proofs.Laws.Table.{tab-at, length-tab}
use Rattle.graph.specs.Graph.{Graph, edges}
use Rattle.graph.specs.Checks.{edges_ok, lengths_ok, marked, leads, reached, connected}
use Rattle.graph.specs.Steps.Path.{Edge, Path, stay, step}
use Rattle.graph.proofs.Laws.Edge.{joins_ends, edge_up, edge_down, edge_in, edge_most}

module _ (g : Graph) where
  -- v is reached within k edges
  abbrev pub Reached : ℕ → ℕ → Type 0
  Reached k v = marked (reached g k) v ≡ true

  length-reached : (k : ℕ) → length (reached g k) ≡ g.n
  unfolding reached
  length-reached zero = length-tab g.n _
  length-reached (suc k) = length-tab g.n _

  pub reached_in : (k v : ℕ) → Reached k v → v < g.n
  reached_in k v h =
      case< v g.n (λ l. l)
      (λ l. clash h (get_or-eq_default (reached g k) false (omega (arith, length-reached k))))

  pub reached-zero : (v : ℕ) → v < g.n → marked (reached g 0) v ≡ eqb v 0
  unfolding reached
  reached-zero v h = tab-at g.n _ false v h

  reached-suc : (k v : ℕ) → v < g.n
      → marked (reached g (suc k)) v ≡ marked (reached g k) v || any (edges g) (leads g (reached g k) v)
  unfolding reached
  reached-suc k v h = tab-at g.n _ false v h

  pub reached_more : (k v : ℕ) → Reached k v → Reached (suc k) v
  reached_more k v h = reached-suc k v (reached_in k v h) ∙ or-true_l _ _ h

  reached_first : (k : ℕ) → 0 < g.n → Reached k 0
  reached_first zero h = reached-zero 0 h
  reached_first (suc k) h = reached_more k 0 (reached_first k h)

  -- an edge that leads to v starts at a marked vertex
  leads_edge : (l : List Bool) (v e : ℕ) → e < edges g → leads g l v e ≡ true
      → (x : ℕ) × ((marked l x ≡ true) × Edge g x v (at g.lengths e))
  leads_edge l v e h t =
      or_elim (eqb b v && marked l a) (eqb a v && marked l b) t
      (λ p. (a, (and_r (eqb b v) (marked l a) p, rw (eqb-true b v (and_l (eqb b v) (marked l a) p)) at (edge_up g e h))))
      (λ p. (b, (and_r (eqb a v) (marked l b) p, rw (eqb-true a v (and_l (eqb a v) (marked l b) p)) at (edge_down g e h))))
    where
      a : ℕ
      a = at g.lower e

      b : ℕ
      b = at g.upper e

  edge_leads : (l : List Bool) {x v s : ℕ} → (d : Edge g x v s) → marked l x ≡ true → leads g l v d.number ≡ true
  edge_leads l {x} {v} d m =
      ⊎_elim
      (λ p. or-true_l (eqb b v && marked l a) (eqb a v && marked l b) (and-true (eqb b v) (marked l a) (eq-eqb b v p.1) (rw p.0 m)))
      (λ p. or_true_r (eqb b v && marked l a) (eqb a v && marked l b) (and-true (eqb a v) (marked l b) (eq-eqb a v p.0) (rw p.1 m)))
      (joins_ends g d.number x v d.ends)
    where
      a : ℕ
      a = at g.lower d.number

      b : ℕ
      b = at g.upper d.number

  -- what a round marks was marked, or an edge leads to it
  pub reached_back : {A : Type 0} (k v : ℕ) → Reached (suc k) v → (Reached k v → A) → ((x s : ℕ) → Reached k x → Edge g x v s → A) → A
  reached_back k v h old new =
      or_elim (marked (reached g k) v) (any (edges g) (leads g (reached g k) v)) (sym (reached-suc k v (reached_in (suc k) v h)) ∙ h) old
      (λ t.
      let z = any_at (edges g) (leads g (reached g k) v) t in
      let y = leads_edge (reached g k) v z.0 z.1.0 z.1.1 in
      new y.0 _ y.1.0 y.1.1)

  module _ (short : lengths_ok g ≡ true) where
    pub reached-path : (k v : ℕ) → Reached k v → (s : ℕ) × ((s ≤ k * 65535) × Path g 0 v s)
    reached-path zero v h = (0, (omega arith, rw (eqb-true v 0 (sym (reached-zero v (reached_in 0 v h)) ∙ h)) stay))
    reached-path (suc k) v h =
        reached_back k v h
        (λ r. let z = reached-path k v r in (z.0, (omega (arith, z.1.0), z.1.1)))
        (λ x s r e.
        let z = reached-path k x r in
        (z.0 + s, (omega (arith, z.1.0, edge_most g short e), step z.1.1 e)))

    -- a path of at most n edges to each vertex
    pub connected-path : connected g ≡ true → (v : ℕ) → v < g.n → (s : ℕ) × ((s ≤ g.n * 65535) × Path g 0 v s)
    unfolding connected
    connected-path h v l = reached-path g.n v (all-at g.n (marked (reached g g.n)) h v l)

  module _ (ok : edges_ok g ≡ true) where
    reached-step : (k : ℕ) {x y s : ℕ} → Reached k x → Edge g x y s → Reached (suc k) y
    reached-step k {x} {y} h d =
        reached-suc k y (edge_in g ok d).1.0
        ∙ or_true_r (marked (reached g k) y) _ (any_intro (edges g) (leads g (reached g k) y) d.number d.here (edge_leads (reached g k) d h))

    -- no edge leads out of what k rounds reach
    abbrev Closed : ℕ → Type 0
    Closed k = (x y s : ℕ) → Reached k x → Edge g x y s → Reached k y

    closed_suc : (k : ℕ) → Closed k → Closed (suc k)
    closed_suc k c x y s h d =
        reached_back k x h
        (λ r. reached-step k r d)
        (λ w t r e. reached-step k (c w x t r e) d)

    -- how many vertices k rounds reach
    abbrev size : ℕ → ℕ
    size k = sum g.n (λ v. pick (marked (reached g k) v) 1)

    size_most : (k : ℕ) → size k ≤ g.n
    size_most k = omega (arith, sum-le-mul g.n 1 (λ v. pick (marked (reached g k) v) 1) (λ v l. pick-le (marked (reached g k) v) 1))

    grow : 0 < g.n → (k : ℕ) → (k + 1 ≤ size k) ⊎ Closed k
    grow h zero =
        inl (omega (arith, sum_ge g.n 0 (λ v. pick (marked (reached g 0) v) 1) h, ap (λ (t : Bool). pick t 1) (reached_first 0 h)))
    grow h (suc k) = ⊎_elim more (λ c. inr (closed_suc k c)) (grow h k)
      where
        new : ℕ → Bool
        new v = marked (reached g (suc k)) v && not (marked (reached g k) v)

        keeps : (v : ℕ) → pick (marked (reached g k) v) 1 ≤ pick (marked (reached g (suc k)) v) 1
        keeps v =
            case (marked (reached g k) v) (λ e. rw (e, reached_more k v e) (omega arith)) (λ e. rw e (omega arith))

        adds : (v : ℕ) → new v ≡ true → pick (marked (reached g k) v) 1 < pick (marked (reached g (suc k)) v) 1
        adds v t =
            rw (not-true (marked (reached g k) v) (and_r (marked (reached g (suc k)) v) _ t), and_l (marked (reached g (suc k)) v) _ t) (omega arith)

        same : any g.n new ≡ false → Closed k
        same f x y s r d =
            is_true _
            (λ e. clash
            (any_intro g.n new y (edge_in g ok d).1.0 (and-true (marked (reached g (suc k)) y) _ (reached-step k r d) (ap not e)))
            f)

        more : k + 1 ≤ size k → (suc k + 1 ≤ size (suc k)) ⊎ Closed (suc k)
        more l =
            case (any g.n new)
            (λ t.
            let z = any_at g.n new t in
            inl (omega (
              arith,
              sum_lt g.n (λ v. pick (marked (reached g k) v) 1) (λ v. pick (marked (reached g (suc k)) v) 1) z.0 z.1.0
                  (adds z.0 z.1.1) (λ v m. keeps v),
            )))
            (λ f. inr (closed_suc k (same f)))

    closed : 0 < g.n → Closed g.n
    closed h = ⊎_elim (λ l. absurd (omega (arith, size_most g.n))) (λ c. c) (grow h g.n)

    pub path-reached : {v s : ℕ} → 0 < g.n → Path g 0 v s → Reached g.n v
    path-reached h p = go h p refl
      where
        go : {u v s : ℕ} → 0 < g.n → Path g u v s → u ≡ 0 → Reached g.n v
        go h stay e = rw e (reached_first g.n h)
        go h (step p d) e = closed h _ _ _ (go h p e) d

    pub connected_from : ((v : ℕ) → v < g.n → (s : ℕ) × Path g 0 v s) → connected g ≡ true
    unfolding connected
    connected_from h = all_intro g.n (marked (reached g g.n)) (λ v l. path-reached (omega arith) (h v l).1)

    -- check 5 holds exactly where each vertex has a path
    pub connected_exact : lengths_ok g ≡ true
        → (connected g ≡ true → (v : ℕ) → v < g.n → (s : ℕ) × Path g 0 v s)
        × (((v : ℕ) → v < g.n → (s : ℕ) × Path g 0 v s) → connected g ≡ true)
    connected_exact short = (λ h v l. let z = connected-path short h v l in (z.0, z.1.1), connected_from)
