-- The laws of labelled trees: what it takes to hang a vertex elsewhere, what a sweep of the edges and a round of sweeps do, and what is known at the end.
use Prim.Native.Nat.{ℕ, ◌+◌, ◌*◌, ◌≤◌, ◌<◌}
use mathlib.Core.Path.{◌≡◌, refl, sym, ap, ◌∙◌}
use mathlib.Core.Bool.{Bool, true, false, cond}
use mathlib.Core.List.{List}
use mathlib.Core.Logic.{inl, inr}
use native.Mathlib.Omega.{arith}
use lib.Dec.{ltb}
use lib.ListN.{length, set, length-set}
use lib.Seq.{get_or-set_same, get_or-set_other}
use borrow.Author.Tests.{lt-ltb, ltb-true, ltb-false}
use Rattle.arithmetic.specs.Bools.{all}
use Rattle.arithmetic.specs.Sum.{pick, sum}
use Rattle.arithmetic.specs.Table.{at}
use Rattle.arithmetic.specs.Steps.Fill.{Filled}
use Rattle.arithmetic.proofs.Laws.Bools.{all-at, all_missed, case, case≡, clash}
use Rattle.arithmetic.proofs.Laws.Sum.{sum_lt}
use Rattle.rooted_tree.specs.Chain.{depth}
use Rattle.rooted_tree.specs.Steps.Rooted.{Rooted}
use Rattle.rooted_tree.proofs.Laws.Rooted.{rooted_of_rank, tree_ind, depth-step, depth-lt}
use Rattle.graph.specs.Graph.{Graph, edges, joins}
use Rattle.graph.specs.Steps.Path.{Edge, Path, stay, step}
use Rattle.graph.specs.Steps.Accepted.{WellFormed}
use Rattle.graph.proofs.Laws.Edge.{ends_joins, edge_turn, edge_in, edge_most, lower_rises}
use Rattle.graph.proofs.Laws.Formed.{vertices, lists, order, short}
use Rattle.path_labels.specs.Steps.Weight.{weight_of, unreached, Feasible, FeasibleEdge}
use Rattle.path_labels.specs.Steps.ShortestPathTree.{Wide, CanFindPaths, Searched}
use Rattle.path_labels.specs.Steps.Labels.{Hangs, Labelled, Initialized, CanRelax, Relaxed, Swept, SomeLabelled, SweepsUp, SweepsDown, FeasibleUp, Rounds}
use Rattle.path_labels.proofs.Laws.ShortestPath.{edge_within}

-- ---- a graph that passed checks 1 to 4
module _ {g : Graph} (f : WellFormed g) where
  -- lower ends rise with the number, and lie below the upper ones
  up_apart : (i e : ℕ) → e ≤ i → i < edges g → at g.lower e ≡ at g.upper i → ⊥
  up_apart i e l h q = omega (arith, lower_rises g f.edges e i l h, order f i h)

  down_apart : (i e : ℕ) → i ≤ e → e < edges g → at g.upper e ≡ at g.lower i → ⊥
  down_apart i e l h q = omega (arith, lower_rises g f.edges i e l h, order f e h)

-- ---- the start

-- the first 64 vertices hang on r, and r alone is reached
pub initialized : (r : ℕ) {p labels p' labels' : List ℕ} → r < 64 → 64 ≤ length labels → Filled 64 (λ _. r) p p' → Filled 64 (λ _. unreached) labels labels'
    → Initialized r p labels p' (set labels' r 0)
initialized r {labels' = labels'} l room hung far = record {
  parents_size = hung.size;
  labels_size = length-set labels' r 0 ∙ far.size;
  parents = hung.each;
  origin = get_or-set_same labels' r 0 0 (omega (arith, far.size));
  others = λ v k d. get_or-set_other labels' r v 0 0 d ∙ far.each v k;
}

pub first_labelled : {g : Graph} {r : ℕ} {p s labels p' labels' : List ℕ} → CanFindPaths g r p s labels → Initialized r p labels p' labels' → Labelled g r p' s labels'
first_labelled {g} {r} can w =
    let few : g.n ≤ 64 = (vertices can.formed).1 in
    record {
      can = record {
        formed = can.formed;
        start_in = can.start_in;
        wide = (omega (arith, w.parents_size, can.wide), (can.wide.1.0, omega (arith, w.labels_size, can.wide)));
      };
      root = w.parents r (omega (arith, can.start_in));
      origin = w.origin;
      most = λ v l. case≡ v r (λ e. rw e (omega (arith, w.origin))) (λ d. omega (arith, w.others v (omega arith) d));
      into = λ v l. rw (w.parents v (omega arith)) can.start_in;
      falls = λ v l d. rw (w.parents v (omega arith)) (omega (arith, w.origin, w.others v (omega arith) d));
      hangs = λ v l d h. absurd (omega (arith, w.others v (omega arith) d));
    }

-- ---- y hangs on x along edge e, with a lower label

-- y is hung on x or left, and its label is at most that of x and the weight w: r says whether it was lowered; no other label changed
record Lowered (g : Graph) (root x y w : ℕ) (p s labels : List ℕ) (r : Bool) (p' s' labels' : List ℕ) : Type 0 where
  pub labelled : Labelled g root p' s' labels'
  pub less : sum g.n (at labels') + pick r 1 ≤ sum g.n (at labels)
  pub same : r ≡ false → labels' ≡ labels
  pub others : (v : ℕ) → (v ≡ y → ⊥) → at labels' v ≡ at labels v
  pub lower : (v : ℕ) → at labels' v ≤ at labels v
  pub holds : at labels' y ≤ at labels x + w

module _ {g : Graph} {r : ℕ} {p s labels : List ℕ} (m : Labelled g r p s labels) (x y e : ℕ) (lx : x < g.n) (ly : y < g.n) (le : e < edges g)
    (js : joins g e y x ≡ true) where
  abbrev w : ℕ
  w = weight_of (at g.lengths e)

  wide : Wide p s labels
  wide = m.can.wide

  few : g.n ≤ 64
  few = (vertices m.can.formed).1

  module _ (falls : at labels x + w < at labels y) where
    abbrev labels' : List ℕ
    labels' = set labels y (at labels x + w)

    new : at labels' y ≡ at labels x + w
    new = get_or-set_same labels y _ 0 (omega (arith, wide, few))

    other : (v : ℕ) → (v ≡ y → ⊥) → at labels' v ≡ at labels v
    other v d = get_or-set_other labels y v _ 0 d

    lower : (v : ℕ) → at labels' v ≤ at labels v
    lower v = case≡ v y (λ e. rw e (omega (arith, new))) (λ d. omega (arith, other v d))

    not_root : y ≡ r → ⊥
    not_root e = omega (arith, m.origin, ap (at labels) e)

    -- the new parent and the new edge of y
    parent : at (set p y x) y ≡ x
    parent = get_or-set_same p y x 0 (omega (arith, wide, few))

    edge : at (set s y e) y ≡ e
    edge = get_or-set_same s y e 0 (omega (arith, wide, few))

    -- those of the others
    parent_of : (v : ℕ) → (v ≡ y → ⊥) → at (set p y x) v ≡ at p v
    parent_of v d = get_or-set_other p y v x 0 d

    edge_of : (v : ℕ) → (v ≡ y → ⊥) → at (set s y e) v ≡ at s v
    edge_of v d = get_or-set_other s y v e 0 d

    old_hangs : (v : ℕ) → (v ≡ y → ⊥) → Hangs g p s labels v → Hangs g (set p y x) (set s y e) labels' v
    old_hangs v d h = record {
      number = rw (edge_of v d) h.number;
      ends = rw (parent_of v d, edge_of v d) h.ends;
      covers = rw (parent_of v d, edge_of v d) (omega (arith, lower (at p v), other v d, h.covers));
    }

    rehung : Labelled g r (set p y x) (set s y e) labels'
    rehung = record {
      can = record {
        formed = m.can.formed;
        start_in = m.can.start_in;
        wide = (rw length-set wide.0, (rw length-set wide.1.0, rw length-set wide.1.1));
      };
      root = parent_of r (λ z. not_root (sym z)) ∙ m.root;
      origin = other r (λ z. not_root (sym z)) ∙ m.origin;
      most = λ v l. omega (arith, lower v, m.most v l);
      into = λ v l. case≡ v y (λ z. rw (z, parent) lx) (λ d. rw (parent_of v d) (m.into v l));
      falls = λ v l d.
          case≡ v y
          (λ z. rw (z, parent) (omega (arith, new, lower x)))
          (λ ne. rw (parent_of v ne) (omega (arith, lower (at p v), other v ne, m.falls v l d)));
      hangs = λ v l d h.
          case≡ v y
          (λ z. rw z (record { number = rw edge le; ends = rw (parent, edge) js; covers = rw (parent, edge) (omega (arith, new, lower x)) }))
          (λ ne. old_hangs v ne (m.hangs v l d (omega (arith, other v ne))));
    }

    less : sum g.n (at labels') < sum g.n (at labels)
    less = sum_lt g.n (at labels') (at labels) y ly (omega (arith, new)) (λ v l. lower v)

    lower_label : Lowered g r x y w p s labels true (set p y x) (set s y e) labels'
    lower_label = record { labelled = rehung; less = omega (arith, less); same = λ f. clash refl f; others = other; lower = lower; holds = omega (arith, new) }

  -- the store of `relax`, made or not
  relaxed : (b : Bool) (p' s' labels' : List ℕ) → Relaxed x y e w p s labels b p' s' labels' → Lowered g r x y w p s labels b p' s' labels'
  relaxed true p' s' labels' t = rw (t.parents, t.edges, t.lowered) (lower_label (ltb-true _ _ (sym t.did)))
  relaxed false p' s' labels' t =
      rw (t.parents, t.edges, t.lowered) (record {
        labelled = m;
        less = omega arith;
        same = λ _. refl;
        others = λ v d. refl;
        lower = λ v. omega arith;
        holds = ltb-false _ _ (sym t.did);
      })

-- ---- edges one after the other, one way
-- the edges go from the ends in one list to those in the other
record Way (g : Graph) (from to : List ℕ) : Type 0 where
  pub size : (length from ≡ edges g) × (length to ≡ edges g)
  pub inside : (e : ℕ) → e < edges g → (at from e < g.n) × (at to e < g.n)
  pub joined : (e : ℕ) → joins g e (at to e) (at from e) ≡ true

upward : {g : Graph} → WellFormed g → Way g g.lower g.upper
upward {g} f = record {
  size = (refl, (lists f).1.0);
  inside = λ e l. (omega (arith, order f e l), (order f e l).1);
  joined = λ e. ends_joins g e _ _ (inr (refl, refl));
}

downward : {g : Graph} → WellFormed g → Way g g.upper g.lower
downward {g} f = record {
  size = ((lists f).1.0, refl);
  inside = λ e l. ((order f e l).1, omega (arith, order f e l));
  joined = λ e. ends_joins g e _ _ (inl (refl, refl));
}

module _ {g : Graph} {root : ℕ} {from to : List ℕ} (way : Way g from to) where
  can_relax : {p s labels : List ℕ} → Labelled g root p s labels → (e : ℕ) → e < edges g → CanRelax from to g.lengths e p s labels
  can_relax m e l =
      let f = m.can.formed in
      record {
        number = omega (arith, lists f);
        listed = (omega (arith, way.size), (omega (arith, way.size), omega (arith, lists f)));
        ends = (omega (arith, way.inside e l, vertices f), omega (arith, way.inside e l, vertices f));
        short = short f e l;
        wide = m.can.wide;
        most = m.most (at from e) (way.inside e l).0;
      }

  -- edge i is relaxed: it lowers the label of its end in `to`, from which no edge of those relaxed goes
  module _ {lo hi : ℕ} {p s labels : List ℕ} {r : Bool} {p₁ s₁ labels₁ : List ℕ} (k : Swept g root from to lo hi p s labels r p₁ s₁ labels₁)
      (i : ℕ) (l : i < edges g) (lo' hi' : ℕ) (apart : (e : ℕ) → lo' ≤ e → e < hi' → at from e ≡ at to i → ⊥)
      (rest : (e : ℕ) → lo' ≤ e → e < hi' → (e ≡ i → ⊥) → (lo ≤ e) × (e < hi))
      {d : Bool} {p' s' labels' : List ℕ} (t : Relaxed (at from i) (at to i) i (weight_of (at g.lengths i)) p₁ s₁ labels₁ d p' s' labels') where
    step_lowers : Lowered g root (at from i) (at to i) (weight_of (at g.lengths i)) p₁ s₁ labels₁ d p' s' labels'
    step_lowers = relaxed k.labelled _ _ i (way.inside i l).0 (way.inside i l).1 l (way.joined i) d p' s' labels' t

    still_feasible : (e : ℕ) → lo' ≤ e → e < hi' → Feasible from to g.lengths (at labels') e
    still_feasible e le he =
        let o = step_lowers.others (at from e) (apart e le he) in
        case≡ e i
        (λ z. rw z (omega (arith, step_lowers.holds, rw z at o)))
        (λ z. let q = rest e le he z in omega (arith, o, step_lowers.lower (at to e), k.feasible e q.0 q.1))

    swept_more : (r' : Bool) → r' ≡ cond d true r → Swept g root from to lo' hi' p s labels r' p' s' labels'
    swept_more r' q = record {
      labelled = step_lowers.labelled;
      less =
          case d
          (λ z. rw (q, z) (omega (arith, rw z at step_lowers.less, k.less)))
          (λ z. rw (q, step_lowers.same z, z) k.less);
      same = λ f. case d (λ z. clash (q ∙ rw z) f) (λ z. step_lowers.same z ∙ k.same (sym (q ∙ rw z) ∙ f));
      feasible = still_feasible;
    }

-- ---- a sweep upward
module _ {a b lengths p s labels : List ℕ} {i : ℕ} {r : Bool} {p₁ s₁ labels₁ : List ℕ} (k : SweepsUp a b lengths i p s labels r p₁ s₁ labels₁)
    (l : i < length a) where
  pub up_can : SomeLabelled a b lengths p s labels → CanRelax a b lengths i p₁ s₁ labels₁
  up_can z = let m = z.1.1 in can_relax (upward m.can.formed) (k _ _ m).labelled i l

  pub up_more : {d : Bool} {p' s' labels' : List ℕ} → Relaxed (at a i) (at b i) i (weight_of (at lengths i)) p₁ s₁ labels₁ d p' s' labels'
      → (r' : Bool) → r' ≡ cond d true r → SweepsUp a b lengths (i + 1) p s labels r' p' s' labels'
  up_more t r' c n root m =
      let f = m.can.formed in
      swept_more (upward f) (k n root m) i l 0 (i + 1) (λ e _ h. up_apart f i e (omega arith) l) (λ e g h d. (omega arith, omega arith)) t r' c

-- ---- a sweep downward
module _ {a b lengths p s labels : List ℕ} {e : ℕ} {r : Bool} {p₁ s₁ labels₁ : List ℕ} (k : SweepsDown a b lengths e p s labels r p₁ s₁ labels₁)
    (i : ℕ) (q : e ≡ i + 1) (l : i < length a) where
  pub down_can : SomeLabelled a b lengths p s labels → CanRelax b a lengths i p₁ s₁ labels₁
  down_can z = let m = z.1.1 in can_relax (downward m.can.formed) (k _ _ m).labelled i l

  pub down_more : {d : Bool} {p' s' labels' : List ℕ} → Relaxed (at b i) (at a i) i (weight_of (at lengths i)) p₁ s₁ labels₁ d p' s' labels'
      → (r' : Bool) → r' ≡ cond d true r → SweepsDown a b lengths i p s labels r' p' s' labels'
  down_more t r' c n root m =
      let f = m.can.formed in
      swept_more (downward f) (k n root m) i l i (length a) (down_apart f i) (λ x g h d. (omega arith, omega arith)) t r' c

-- ---- a round: a sweep down that lowers no label, or one down and one up
module _ {a b lengths p s labels : List ℕ} {r : Bool} {p₁ s₁ labels₁ : List ℕ} (k : SweepsDown a b lengths 0 p s labels r p₁ s₁ labels₁) where
  pub round_down : FeasibleUp a b lengths labels → r ≡ false → Rounds a b lengths p s labels false p₁ s₁ labels₁
  round_down up z n root m =
      let d = k n root m in
      let still : FeasibleUp a b lengths labels₁ = rw (d.same z) up in
      record { labelled = d.labelled; less = omega (arith, d.less); up = still; closed = λ _ e l. (still e l, d.feasible e (omega arith) l) }

  pub round_up : {r' : Bool} {p' s' labels' : List ℕ} → SweepsUp a b lengths (length a) p₁ s₁ labels₁ r' p' s' labels'
      → Rounds a b lengths p s labels r' p' s' labels'
  round_up k' n root m =
      let d = k n root m in
      let u = k' n root d.labelled in
      record {
        labelled = u.labelled;
        less = omega (arith, d.less, u.less);
        up = λ e l. u.feasible e (omega arith) l;
        closed = λ z e l. (u.feasible e (omega arith) l, rw (u.same z) (d.feasible e (omega arith) l));
      }

-- ---- the end: no edge can lower a label
module _ {g : Graph} {r : ℕ} {p s labels : List ℕ} (m : Labelled g r p s labels) (least : (e : ℕ) → e < edges g → FeasibleEdge g (at labels) e) where
  abbrev reached : ℕ → Bool
  reached v = ltb (at labels v) unreached

  formed : WellFormed g
  formed = m.can.formed

  rooted : Rooted g.n r (at p)
  rooted = rooted_of_rank g.n r (at p) (at labels) m.can.start_in m.root m.into m.falls

  -- the edge from a reached vertex to its parent
  parent_edge : (v : ℕ) → v < g.n → (v ≡ r → ⊥) → at labels v < unreached → Edge g v (at p v) (at g.lengths (at s v))
  parent_edge v l d h = let k = m.hangs v l d h in record { number = at s v; here = k.number; ends = k.ends; size = refl }

  tight : (v : ℕ) → v < g.n → (v ≡ r → ⊥) → at labels v < unreached → at labels v ≡ at labels (at p v) + weight_of (at g.lengths (at s v))
  tight v l d h =
      let k = m.hangs v l d h in
      omega (arith, k.covers, edge_within g (at labels) least (edge_turn g (parent_edge v l d h)))

  -- a path of the tree has fewer than 64 edges
  light : (v : ℕ) → v < g.n → at labels v < unreached → at labels v ≤ depth (at p) r g.n v * weight_of 65535
  light =
      tree_ind rooted (λ v. at labels v < unreached → at labels v ≤ depth (at p) r g.n v * weight_of 65535)
      (λ h. omega (arith, m.origin))
      (λ v l d k h. omega (
        arith,
        k (omega (arith, m.falls v l d)),
        tight v l d h,
        depth-step rooted v l d,
        short formed (at s v) (m.hangs v l d h).number,
      ))

  -- no edge leads out of what is reached
  crosses : {x y t : ℕ} → Edge g x y t → at labels x < unreached → at labels y < unreached
  crosses {x} e h =
      let lx = (edge_in g formed.edges e).0 in
      omega (
        arith,
        edge_within g (at labels) least e,
        light x lx h,
        depth-lt rooted x lx,
        vertices formed,
        edge_most g formed.lengths e,
      )

  path-reached : {u v t : ℕ} → Path g u v t → u ≡ r → at labels v < unreached
  path-reached stay e = rw e (omega (arith, m.origin))
  path-reached (step q e) f = crosses e (path-reached q f)

  reached-path : (v : ℕ) → v < g.n → at labels v < unreached → (t : ℕ) × Path g r v t
  reached-path =
      tree_ind rooted (λ v. at labels v < unreached → (t : ℕ) × Path g r v t)
      (λ h. (0, stay))
      (λ v l d k h. let z = k (omega (arith, m.falls v l d)) in (z.0 + at g.lengths (at s v), step z.1 (edge_turn g (parent_edge v l d h))))

  pub searched : (b : Bool) → b ≡ all g.n reached → Searched g r b p s labels
  searched b e = record {
    tree = λ h.
        let every : (v : ℕ) → v < g.n → at labels v < unreached = λ v l. ltb-true _ _ (all-at g.n reached (sym e ∙ h) v l) in
        record {
          root = m.root;
          origin = m.origin;
          hangs = λ v l d. let k = m.hangs v l d (every v l) in record { number = k.number; ends = k.ends; tight = tight v l d (every v l) };
          least = least;
          most = every;
        };
    reached = λ h v l. reached-path v l (ltb-true _ _ (all-at g.n reached (sym e ∙ h) v l));
    missed = λ h. let z = all_missed g.n reached (sym e ∙ h) in
        (z.0, (z.1.0, λ t q. clash (lt-ltb _ _ (path-reached q refl)) z.1.1));
  }
