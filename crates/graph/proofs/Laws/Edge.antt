-- Edges: no pair comes twice, so an edge's length is the length between its ends.
use Prim.Native.Nat.{ℕ, zero, suc, ◌+◌, ◌-◌, ◌*◌, ◌≤◌, ◌<◌}
use mathlib.Core.Path.{◌≡◌, refl, ap, ◌∙◌}
use mathlib.Core.Bool.{Bool, true, false, ◌&&◌}
use mathlib.Core.Logic.{◌⊎◌, inl, inr, ⊎_elim}
use native.Mathlib.Omega.{arith}
use lib.Dec.{eqb, ltb}
use borrow.Author.Tests.{eqb-true, eq-eqb, ne_eqb, ltb-true, leb-true}
use Rattle.arithmetic.specs.Sum.{pick}
use Rattle.arithmetic.specs.Table.{at}
use Rattle.arithmetic.proofs.Laws.Bools.{case, case≡, case<, case≤, clash, both, all-at, any_at, any_intro, and_l, and_r, and-true, or_elim, or_right, or-true_l, or_true_r}
use Rattle.arithmetic.proofs.Laws.Sum.{sum_ext, sum_only, sum_zeros}
use Rattle.arithmetic.proofs.Laws.Table.{row_below}
use Rattle.graph.specs.Graph.{Graph, edges, joins, joined, edge_length}
use Rattle.graph.specs.Checks.{after, edge_fits, edges_ok, length_fits, lengths_ok}
use Rattle.graph.specs.Steps.Path.{Edge}

-- which end is which
abbrev pub Ends : Graph → ℕ → ℕ → ℕ → Type 0
Ends g e x y = ((at g.lower e ≡ x) × (at g.upper e ≡ y)) ⊎ ((at g.lower e ≡ y) × (at g.upper e ≡ x))

module _ (g : Graph) where
  pub joins_ends : (e x y : ℕ) → joins g e x y ≡ true → Ends g e x y
  joins_ends e x y h =
      or_elim (eqb a x && eqb b y) (eqb a y && eqb b x) h
      (λ t. inl (eqb-true a x (and_l (eqb a x) (eqb b y) t), eqb-true b y (and_r (eqb a x) (eqb b y) t)))
      (λ t. inr (eqb-true a y (and_l (eqb a y) (eqb b x) t), eqb-true b x (and_r (eqb a y) (eqb b x) t)))
    where
      a : ℕ
      a = at g.lower e

      b : ℕ
      b = at g.upper e

  pub ends_joins : (e x y : ℕ) → Ends g e x y → joins g e x y ≡ true
  ends_joins e x y =
      ⊎_elim
      (λ p. or-true_l (eqb a x && eqb b y) (eqb a y && eqb b x) (and-true (eqb a x) (eqb b y) (eq-eqb a x p.0) (eq-eqb b y p.1)))
      (λ p. or_true_r (eqb a x && eqb b y) (eqb a y && eqb b x) (and-true (eqb a y) (eqb b x) (eq-eqb a y p.0) (eq-eqb b x p.1)))
    where
      a : ℕ
      a = at g.lower e

      b : ℕ
      b = at g.upper e

  -- edge e goes from its lower end to its upper end, and back
  pub edge_up : (e : ℕ) → e < edges g → Edge g (at g.lower e) (at g.upper e) (at g.lengths e)
  edge_up e h = record { number = e; here = h; ends = ends_joins e _ _ (inl (refl, refl)); size = refl }

  pub edge_down : (e : ℕ) → e < edges g → Edge g (at g.upper e) (at g.lower e) (at g.lengths e)
  edge_down e h = record { number = e; here = h; ends = ends_joins e _ _ (inr (refl, refl)); size = refl }

  joins_turn : (e x y : ℕ) → joins g e x y ≡ true → joins g e y x ≡ true
  joins_turn e x y h = ends_joins e y x (⊎_elim inr inl (joins_ends e x y h))

  pub edge_turn : {x y s : ℕ} → Edge g x y s → Edge g y x s
  edge_turn {x} {y} d = record { number = d.number; here = d.here; ends = joins_turn d.number x y d.ends; size = d.size }

  pub edge_joined : {x y s : ℕ} → Edge g x y s → joined g x y ≡ true
  unfolding joined
  edge_joined {x} {y} d = any_intro (edges g) (λ e. joins g e x y) d.number d.here d.ends

  -- some edge between x and y
  joined_some : (x y : ℕ) → joined g x y ≡ true → (s : ℕ) × Edge g x y s
  unfolding joined
  joined_some x y h =
      let z = any_at (edges g) (λ e. joins g e x y) h in
      (at g.lengths z.0, record { number = z.0; here = z.1.0; ends = z.1.1; size = refl })

  pub joined_sym : (x y : ℕ) → joined g x y ≡ joined g y x
  joined_sym x y =
      both _ _
      (λ h. edge_joined (edge_turn (joined_some x y h).1))
      (λ h. edge_joined (edge_turn (joined_some y x h).1))

  pub edge_length_sym : (x y : ℕ) → edge_length g x y ≡ edge_length g y x
  unfolding edge_length
  edge_length_sym x y =
      sum_ext (edges g) _ _
      (λ e l. ap (λ (t : Bool). pick t (at g.lengths e)) (both (joins g e x y) (joins g e y x) (joins_turn e x y) (joins_turn e y x)))

  -- what is not joined has length 0
  pub apart-length : (x y : ℕ) → joined g x y ≡ false → edge_length g x y ≡ 0
  unfolding joined edge_length
  apart-length x y h =
      sum_zeros (edges g) (λ e. pick (joins g e x y) (at g.lengths e))
      (λ e l. case (joins g e x y) (λ t. clash (any_intro (edges g) (λ e. joins g e x y) e l t) h) (λ f. rw f))

  -- check 4
  pub edge_most : lengths_ok g ≡ true → {x y s : ℕ} → Edge g x y s → s ≤ 65535
  unfolding length_fits
  edge_most short d =
      omega (
        arith,
        leb-true (at g.lengths d.number) 65535 (all-at (edges g) (length_fits g.lengths) short d.number d.here),
        d.size,
      )

  module _ (ok : edges_ok g ≡ true) where
    -- check 3, as an order
    pub edge_order : (e : ℕ) → e < edges g → (at g.lower e < at g.upper e) × (at g.upper e < g.n)
    unfolding edge_fits
    edge_order e h =
        let t = all-at (edges g) (edge_fits g.n g.lower g.upper) ok e h in
        let l = and_l (ltb (at g.upper e) g.n) _ t in
        let r = and_r (ltb (at g.upper e) g.n) _ t in
        (ltb-true _ _ (and_l (ltb (at g.lower e) (at g.upper e)) _ r), ltb-true _ _ l)

    -- an edge's place in the order of edges
    key : ℕ → ℕ
    key e = at g.lower e * g.n + at g.upper e

    key_next : (e : ℕ) → suc e < edges g → key e < key (suc e)
    unfolding edge_fits key
    key_next e h =
        let t = all-at (edges g) (edge_fits g.n g.lower g.upper) ok (suc e) h in
        let r = and_r (ltb (at g.upper (suc e)) g.n) _ t in
        let s = and_r (ltb (at g.lower (suc e)) (at g.upper (suc e))) _ r in
        let z : suc e - 1 ≡ e = omega arith in
        or_elim (ltb a x) (eqb a x && ltb b y) (or_right (eqb (suc e) 0) (after a b x y) (rw z at s) (ne_eqb (suc e) 0 (λ q. omega arith)))
        (λ u. omega (arith, row_below g.n a x (ltb-true a x u), edge_order e (omega arith)))
        (λ u.
        let p = ltb-true b y (and_r (eqb a x) (ltb b y) u) in
        let q = ap (λ (z : ℕ). z * g.n) (eqb-true a x (and_l (eqb a x) (ltb b y) u)) in
        omega arith)
      where
        a : ℕ
        a = at g.lower e

        b : ℕ
        b = at g.upper e

        x : ℕ
        x = at g.lower (suc e)

        y : ℕ
        y = at g.upper (suc e)

    key_rises : (e f : ℕ) → e < f → f < edges g → key e < key f
    key_rises e zero l h = absurd (omega arith)
    key_rises e (suc f) l h =
        case≡ e f (λ z. rw z (key_next f h)) (λ d. omega (arith, key_rises e f (omega arith) (omega arith), key_next f h))

    -- lower ends rise, if not strictly
    pub lower_rises : (e f : ℕ) → e ≤ f → f < edges g → at g.lower e ≤ at g.lower f
    unfolding key
    lower_rises e f l h =
        case≡ e f (λ z. omega (arith, ap (at g.lower) z)) (λ d.
        case≤ (at g.lower e) (at g.lower f) (λ k. k) (λ k.
        absurd (omega (arith, key_rises e f (omega arith) h, row_below g.n (at g.lower f) (at g.lower e) k, edge_order f h))))

    key_same : (x y e f : ℕ) → e < edges g → f < edges g → Ends g e x y → Ends g f x y → key e ≡ key f
    unfolding key
    key_same x y e f he hf (inl p) (inl q) = cc
    key_same x y e f he hf (inl p) (inr q) = absurd (omega (arith, edge_order e he, edge_order f hf))
    key_same x y e f he hf (inr p) (inl q) = absurd (omega (arith, edge_order e he, edge_order f hf))
    key_same x y e f he hf (inr p) (inr q) = cc

    -- an edge's ends tell its number
    pub same_edge : (x y e f : ℕ) → e < edges g → f < edges g → joins g e x y ≡ true → joins g f x y ≡ true → e ≡ f
    same_edge x y e f he hf je jf =
        let k = key_same x y e f he hf (joins_ends e x y je) (joins_ends f x y jf) in
        case< e f
        (λ l. absurd (omega (arith, key_rises e f l hf)))
        (λ l. case< f e (λ m. absurd (omega (arith, key_rises f e m he))) (λ m. omega arith))

    -- the length between the ends of an edge is its own
    pub edge-length : (x y e : ℕ) → e < edges g → joins g e x y ≡ true → edge_length g x y ≡ at g.lengths e
    unfolding edge_length
    edge-length x y e he h =
        sum_ext (edges g) (λ f. pick (joins g f x y) (at g.lengths f)) (λ f. pick (eqb f e) (at g.lengths f))
        (λ f l. ap (λ (t : Bool). pick t (at g.lengths f))
        (both (joins g f x y) (eqb f e) (λ t. eq-eqb f e (same_edge x y f e l he t h)) (λ t. rw (eqb-true f e t) h)))
        ∙ sum_only (edges g) e (at g.lengths) he

    pub edge_size : {x y s : ℕ} → Edge g x y s → edge_length g x y ≡ s
    edge_size {x} {y} d = edge-length x y d.number d.here d.ends ∙ d.size

    pub joined_edge : (x y : ℕ) → joined g x y ≡ true → Edge g x y (edge_length g x y)
    joined_edge x y h = let z = joined_some x y h in rw (edge_size z.1) z.1

    -- the ends of an edge are two vertices
    pub edge_in : {x y s : ℕ} → Edge g x y s → (x < g.n) × ((y < g.n) × (x ≡ y → ⊥))
    edge_in {x} {y} d =
        let o = edge_order d.number d.here in
        ⊎_elim
        (λ p. (omega arith, (omega arith, λ e. omega arith)))
        (λ p. (omega arith, (omega arith, λ e. omega arith)))
        (joins_ends d.number x y d.ends)

    pub joined_in : (x y : ℕ) → joined g x y ≡ true → (x < g.n) × ((y < g.n) × (x ≡ y → ⊥))
    joined_in x y h = edge_in (joined_edge x y h)

    pub edge_length_most : lengths_ok g ≡ true → (x y : ℕ) → edge_length g x y ≤ 65535
    edge_length_most short x y =
        case (joined g x y) (λ h. edge_most short (joined_edge x y h)) (λ h. omega (arith, apart-length x y h))
