-- Dijkstra's method: the nearest vertex of the frontier is settled, and at the end a label is the distance.
use Prim.Native.Nat.{ℕ, ◌+◌, ◌-◌, ◌*◌, ◌/◌, ◌%◌, ◌^◌, ◌≤◌, ◌<◌}
use mathlib.Core.Path.{◌≡◌, refl, sym, ap, ◌∙◌}
use mathlib.Core.Bool.{Bool, true, false, not, ◌||◌, or-false, or-true}
use mathlib.Core.List.{List}
use mathlib.Core.Logic.{⊎_elim}
use native.Mathlib.Nat.{zero-div, le_antisymm, mul-le-mul_right}
use native.Mathlib.Omega.{arith}
use lib.Dec.{eqb, ltb}
use lib.ListN.{length, set, replicate, length-set, length-replicate, get_or-replicate}
use lib.Seq.{get_or-set_same, get_or-set_other}
use borrow.Author.Tests.{eqb-true, lt-ltb, le-ltb, ltb-true, not-true}
use Rattle.std.specs.Prelude.{Option, MatchOption}
use Rattle.std.specs.Bool.{then_some}
use Rattle.arithmetic.specs.Bools.{all}
use Rattle.arithmetic.specs.Mask.{mask}
use Rattle.arithmetic.specs.Sum.{pick}
use Rattle.arithmetic.specs.Table.{at}
use Rattle.arithmetic.specs.Steps.Mask.{bit}
use Rattle.arithmetic.proofs.Laws.Bools.{case, case≡, case<, clash, is_false, and_l, and_r, eqb_self, all-at, all_missed}
use Rattle.arithmetic.proofs.Laws.Mask.{bit_mask, mask_bits, shl_one}
use Rattle.arithmetic.proofs.Laws.Sum.{sum_change, sum-le-mul, pick-le}
use Rattle.vertex_set.proofs.Laws.Words.{mask_one}
use Rattle.vertex_set.proofs.Laws.Without.{Without, without_vertex}
use Rattle.graph.specs.Graph.{Graph, edges}
use Rattle.graph.specs.Checks.{connected}
use Rattle.graph.specs.Distance.{distance}
use Rattle.graph.specs.Steps.Path.{Edge, Path, stay, step}
use Rattle.graph.specs.Steps.Accepted.{WellFormed, Accepted}
use Rattle.graph.proofs.Laws.Edge.{joins_ends, edge_up, edge_down, edge_turn, edge_in, edge_most}
use Rattle.graph.proofs.Laws.Formed.{vertices, lists, order, short}
use Rattle.graph.proofs.Laws.Path.{path_join, path_turn, path-potential}
use Rattle.graph.proofs.Laws.Connected.{connected_exact}
use Rattle.graph.proofs.Laws.Distance.{distance_least}
use Rattle.forward_star.specs.Steps.Linked.{tail, CanLink}
use Rattle.forward_star.proofs.Laws.Linked.{tail_even, tail_odd, tail_up, tail_down}
use Rattle.path_labels.specs.Steps.Weight.{unreached}
use Rattle.dijkstra.specs.Steps.Relaxing.{IsWord, NearestOf, CanRelax, Relaxed}
use Rattle.dijkstra.specs.Steps.Search.{CanSearch, CanSearchLinked, settled, unsettled, Searching, Found}

-- ---- the start: s alone is reached
module _ {g : Graph} {s : ℕ} (can : CanSearch g s) (label : ℕ → ℕ) (origin : label s ≡ 0) (others : (v : ℕ) → v < 64 → (v ≡ s → ⊥) → label v ≡ unreached)
    (w : ℕ) (word : w ≡ 2 ^ s) where
  start_few : s < 64
  start_few = omega (arith, can.start_in, vertices can.formed)

  start-mask : w ≡ mask 64 (λ z. eqb z s)
  start-mask = word ∙ sym (mask_one 64 s start_few)

  start-bit : (v : ℕ) → v < 64 → bit w v ≡ eqb v s
  start-bit v l = ap (λ (z : ℕ). bit z v) start-mask ∙ bit_mask 64 (λ z. eqb z s) v l

  start_only : (v : ℕ) → v < 64 → label v < unreached → v ≡ s
  start_only v l h = case≡ v s (λ e. e) (λ d. absurd (omega (arith, others v l d)))

  none_settled : {A : Type 0} (v : ℕ) → v < 64 → settled w label v ≡ true → A
  none_settled v l h =
      let e = start_only v l (ltb-true _ _ (and_l (ltb (label v) unreached) _ h)) in
      clash (start-bit v l ∙ rw e (eqb_self s)) (not-true _ (and_r (ltb (label v) unreached) _ h))

  searching_first : Searching g s w label
  searching_first = record {
    word = mask_bits 64 (λ z. eqb z s) w start-mask;
    origin = origin;
    inside = λ v l h. let e : v ≡ s = eqb-true v s (sym (start-bit v l) ∙ h) in (rw e can.start_in, rw (e, origin) (omega arith));
    path = λ v l h. let e = start_only v (omega (arith, vertices can.formed)) h in rw (e, origin) stay;
    ordered = λ x v i h l b. none_settled x (omega (arith, vertices can.formed)) h;
    feasible = λ x y t h e. none_settled x (omega (arith, edge_in g can.formed.edges e, vertices can.formed)) h;
    light = λ v l h.
        let e = start_only v (omega (arith, vertices can.formed)) h in
        let count = sum-le-mul g.n 1 (λ v. pick (not (settled w label v)) 1) (λ v _. pick-le (not (settled w label v)) 1) in
        rw (e, origin) (omega (arith, count, mul-le-mul_right 65535 count));
  }

pub searching_start : {g : Graph} {s : ℕ} → CanSearch g s
    → (length (set (replicate 64 unreached) s 0) ≡ 64) × Searching g s ((1 * 2 ^ s) % 2 ^ 64) (at (set (replicate 64 unreached) s 0))
searching_start {g} {s} can =
    let l : s < 64 = omega (arith, can.start_in, vertices can.formed) in
    let size = length-replicate {A = ℕ} 64 unreached in (
      length-set (replicate 64 unreached) s 0 ∙ size,
      searching_first can _ (get_or-set_same (replicate 64 unreached) s 0 0 (omega (arith, size)))
          (λ v i d. get_or-set_other (replicate 64 unreached) s v 0 0 d ∙ get_or-replicate 64 v unreached 0 i) _ (shl_one s l),
    )

-- ---- the arcs can be linked, and those from x relaxed
module _ {g : Graph} (f : WellFormed g) where
  ends : (e : ℕ) → e < edges g → (at g.lower e < 64) × (at g.upper e < 64)
  ends e l = (omega (arith, order f e l, vertices f), omega (arith, order f e l, vertices f))

  pub can_link : CanLink g.lower g.upper
  can_link = record { few = (lists f).0; both = (lists f).1.0; ends = ends }

can_relax : {g : Graph} {s : ℕ} {last before : List ℕ} → CanSearchLinked g s last before → {x near w : ℕ} (labels : List ℕ)
    → x < 64 → near < unreached → IsWord w → 64 ≤ length labels → CanRelax g.lower g.upper g.lengths last before x near w labels
can_relax can labels here low word long =
    let f = can.can.formed in
    record {
      linked = can.linked;
      few = (lists f).0;
      both = (lists f).1.0;
      lengths_long = (lists f).1.1;
      ends = ends f;
      short = short f;
      here = here;
      low = low;
      word = word;
      long = long;
    }

-- ---- the edges at x, relaxed
record Spread (g : Graph) (x near w : ℕ) (label : ℕ → ℕ) (w' : ℕ) (label' : ℕ → ℕ) : Type 0 where
  pub word : IsWord w'
  pub lower : (v : ℕ) → label' v ≤ label v
  pub done : (y t : ℕ) → Edge g x y t → label' y ≤ near + t
  pub along : (v : ℕ) → label' v < label v → (t : ℕ) × (Edge g x v t × (label' v ≡ near + t))
  pub grows : (v : ℕ) → v < 64 → bit w' v ≡ bit w v || ltb (label' v) (label v)

-- an arc is an edge one way, and an edge that way is an arc
module _ (g : Graph) where
  arc_edge : (i x y : ℕ) → i < 2 * edges g → tail g.lower g.upper i ≡ x → tail g.upper g.lower i ≡ y → Edge g x y (at g.lengths (i / 2))
  arc_edge i x y l p q =
      case≡ (i % 2) 0
      (λ z. rw (sym (tail_even g.lower g.upper i z) ∙ p, sym (tail_even g.upper g.lower i z) ∙ q) at (edge_up g (i / 2) (omega arith)))
      (λ d.
      let z : i % 2 ≡ 1 = omega arith in
      rw (sym (tail_odd g.lower g.upper i z) ∙ p, sym (tail_odd g.upper g.lower i z) ∙ q) at (edge_down g (i / 2) (omega arith)))

  spread_done : {x near w : ℕ} {labels : List ℕ} {w' : ℕ} {labels' : List ℕ} → Relaxed g.lower g.upper g.lengths x near w labels 0 w' labels'
      → (y t : ℕ) → Edge g x y t → at labels' y ≤ near + t
  spread_done {x} r y t e =
      let n = e.number in
      ⊎_elim
      (λ q.
      let z = r.done (2 * n) (omega arith) (omega (arith, e.here)) (tail_up g.lower g.upper n ∙ q.0) in
      let half : 2 * n / 2 ≡ n = omega arith in
      rw (tail_up g.upper g.lower n ∙ q.1, half, e.size) at z)
      (λ q.
      let z = r.done (2 * n + 1) (omega arith) (omega (arith, e.here)) (tail_down g.lower g.upper n ∙ q.1) in
      let half : (2 * n + 1) / 2 ≡ n = omega arith in
      rw (tail_down g.upper g.lower n ∙ q.0, half, e.size) at z)
      (joins_ends g n x y e.ends)

  spread : {x near w : ℕ} {labels : List ℕ} {w' : ℕ} {labels' : List ℕ} → Relaxed g.lower g.upper g.lengths x near w labels 0 w' labels'
      → Spread g x near w (at labels) w' (at labels')
  spread r = record {
    word = r.word;
    lower = r.lower;
    done = spread_done r;
    along = λ v h. let z = r.along v h in (at g.lengths (z.number / 2), (arc_edge z.number _ v z.here z.starts z.ends, z.label));
    grows = r.grows;
  }

-- ---- x, the nearest of the frontier, is settled
module _ {g : Graph} {s : ℕ} (f : WellFormed g) {w : ℕ} {label : ℕ → ℕ} (k : Searching g s w label) {x : ℕ} (first : NearestOf w label x) where
  nearest_in : (x < g.n) × (label x < unreached)
  nearest_in = k.inside x first.inside first.has

  pub nearest-out : Without 64 w x ((1 * 2 ^ x) % 2 ^ 64)
  nearest-out = without_vertex 64 w x _ (omega arith) k.word first.inside first.has (shl_one x first.inside)

  module _ {v w' : ℕ} {label' : ℕ → ℕ} (out : Without 64 w x v) (p : Spread g x (label x) (w - v) label w' label') where
    -- what is lowered is not less than x
    not_lower : (y : ℕ) → label' y < label y → label x ≤ label' y
    not_lower y h = let z = p.along y h in omega (arith, z.1.1)

    x_kept : label' x ≡ label x
    x_kept = case< (label' x) (label x) (λ h. absurd (omega (arith, not_lower x h))) (λ h. omega (arith, p.lower x))

    kept : (y : ℕ) → y < g.n → settled w label y ≡ true → label' y ≡ label y
    kept y l h =
        case< (label' y) (label y)
        (λ m. absurd (omega (arith, not_lower y m, k.ordered y x l h first.inside first.has)))
        (λ m. omega (arith, p.lower y))

    x_bit : bit w' x ≡ false
    x_bit = p.grows x first.inside ∙ rw (out.gone, le-ltb (label' x) (label x) (omega (arith, x_kept)))

    x_settles : settled w' label' x ≡ true
    x_settles = rw (x_bit, x_kept, lt-ltb (label x) unreached nearest_in.1)

    x_unsettled : settled w label x ≡ false
    x_unsettled = is_false _ (λ h. clash first.has (not-true _ (and_r (ltb (label x) unreached) _ h)))

    -- the others are settled if they were
    same_settled : (y : ℕ) → y < g.n → (y ≡ x → ⊥) → settled w label y ≡ settled w' label' y
    same_settled y l d =
        let i : y < 64 = omega (arith, vertices f) in
        case< (label' y) (label y)
        (λ m.
        let gone : settled w label y ≡ false = is_false _ (λ h. omega (arith, kept y l h)) in
        let here : bit w' y ≡ true = p.grows y i ∙ rw (lt-ltb (label' y) (label y) m) (or-true (bit (w - v) y)) in
        gone ∙ sym (is_false _ (λ h. clash here (not-true _ (and_r (ltb (label' y) unreached) _ h)))))
        (λ m.
        let e : label' y ≡ label y = omega (arith, p.lower y) in
        let b : bit w' y ≡ bit w y = p.grows y i ∙ rw (le-ltb (label' y) (label y) m, or-false) (out.kept y i d) in
        rw (e, b))

    settled_back : (y : ℕ) → y < g.n → settled w' label' y ≡ true → (y ≡ x → ⊥) → settled w label y ≡ true
    settled_back y l h d = same_settled y l d ∙ h

    fewer : unsettled g.n w' label' + 1 ≡ unsettled g.n w label
    fewer =
        let c = sum_change g.n x (λ y. pick (not (settled w label y)) 1) (λ y. pick (not (settled w' label' y)) 1) nearest_in.0
        (λ y l d. rw (same_settled y l d)) in
        omega (arith, rw (x_unsettled, x_settles) at c)

    -- what is in the frontier now was lowered, or was there and is not x
    frontier_back : {A : Type 0} (y : ℕ) → y < 64 → bit w' y ≡ true
        → (label' y < label y → A) → (bit w y ≡ true → label' y ≡ label y → A) → A
    frontier_back y i h new old =
        case< (label' y) (label y) new
        (λ m.
        let b : bit w' y ≡ bit (w - v) y = p.grows y i ∙ rw (le-ltb (label' y) (label y) m, or-false) in
        let r : bit (w - v) y ≡ true = sym b ∙ h in
        case≡ y x
        (λ e. clash (rw e at r) out.gone)
        (λ d. old (sym (out.kept y i d) ∙ r) (omega (arith, p.lower y))))

    x_light : label x + unsettled g.n w label * 65535 ≤ g.n * 65535
    x_light = k.light x nearest_in.0 nearest_in.1

    new_low : (y : ℕ) → label' y < label y → (y < g.n) × (label' y + unsettled g.n w' label' * 65535 ≤ g.n * 65535)
    new_low y h =
        let z = p.along y h in
        ((edge_in g f.edges z.1.0).1.0, omega (arith, z.1.1, edge_most g f.lengths z.1.0, x_light, fewer))

    settles_low : (y : ℕ) → y < g.n → settled w' label' y ≡ true → label' y ≤ label x
    settles_low y l h =
        case≡ y x
        (λ e. rw e (omega (arith, x_kept)))
        (λ d.
        let o = settled_back y l h d in
        omega (arith, kept y l o, k.ordered y x l o first.inside first.has))

    searching_more : Searching g s w' label'
    searching_more = record {
      word = p.word;
      origin = omega (arith, p.lower s, k.origin);
      inside = λ y i h.
          frontier_back y i h
          (λ m. let z = new_low y m in (z.0, omega (arith, z.1, vertices f)))
          (λ b e. let z = k.inside y i b in (z.0, omega (arith, z.1)));
      path = λ y l h.
          case< (label' y) (label y)
          (λ m. let z = p.along y m in rw z.1.1 (step (k.path x nearest_in.0 nearest_in.1) z.1.0))
          (λ m. let e : label' y ≡ label y = omega (arith, p.lower y) in rw e (k.path y l (omega arith)));
      ordered = λ y v l h i b.
          frontier_back v i b
          (λ m. omega (arith, settles_low y l h, not_lower v m))
          (λ o e. omega (arith, settles_low y l h, first.least v i o));
      feasible = λ y z t h e.
          case≡ y x
          (λ q. rw q (omega (arith, x_kept, p.done z t (rw q at e))))
          (λ d.
          let l = (edge_in g f.edges e).0 in
          let o = settled_back y l h d in
          omega (arith, p.lower z, k.feasible y z t o e, kept y l o));
      light = λ y l h.
          case< (label' y) (label y)
          (λ m. (new_low y m).1)
          (λ m. omega (arith, p.lower y, k.light y l (omega (arith, p.lower y)), fewer));
    }

-- the same of the code's call
module _ {g : Graph} {s : ℕ} {last before : List ℕ} (can : CanSearchLinked g s last before) {w : ℕ} (labels : List ℕ) (size : length labels ≡ 64)
    (k : Searching g s w (at labels)) {x : ℕ} (first : NearestOf w (at labels) x) where
  abbrev rest : ℕ
  rest = w - (1 * 2 ^ x) % 2 ^ 64

  out : Without 64 w x ((1 * 2 ^ x) % 2 ^ 64)
  out = nearest-out can.can.formed k first

  pub settle_can : CanRelax g.lower g.upper g.lengths last before x (at labels x) rest labels
  settle_can = can_relax can labels first.inside (k.inside x first.inside first.has).1 out.word (omega arith)

  module _ {w' : ℕ} (labels' : List ℕ) (r : Relaxed g.lower g.upper g.lengths x (at labels x) rest labels 0 w' labels') where
    pub settle_all : (length labels' ≡ 64) × Searching g s w' (at labels')
    settle_all = (r.size ∙ size, searching_more can.can.formed k first out (spread g r))

    pub settle_less : unsettled g.n w' (at labels') < unsettled g.n w (at labels)
    settle_less = omega (arith, fewer can.can.formed k first out (spread g r))

-- ---- the end: the frontier is empty
module _ {g : Graph} {s : ℕ} (can : CanSearch g s) {label : ℕ → ℕ} (k : Searching g s 0 label) where
  end_formed : WellFormed g
  end_formed = can.formed

  end-settled : (v : ℕ) → label v < unreached → settled 0 label v ≡ true
  end-settled v h = rw (lt-ltb (label v) unreached h, zero-div (2 ^ v)) refl

  -- no edge leads out of what is reached
  crosses : {x y t : ℕ} → Edge g x y t → label x < unreached → label y < unreached
  crosses {x} {y} {t} e h =
      let l = (edge_in g end_formed.edges e).0 in
      omega (arith, k.feasible x y t (end-settled x h) e, k.light x l h, vertices end_formed, edge_most g end_formed.lengths e)

  path-reached : {u v t : ℕ} → Path g u v t → u ≡ s → label v < unreached
  path-reached stay e = rw e (omega (arith, k.origin))
  path-reached (step q e) r = crosses e (path-reached q r)

  -- check 5, from any vertex: a path goes both ways
  all-connected : (b : Bool) → b ≡ all g.n (λ v. ltb (label v) unreached) → b ≡ connected g
  all-connected b e =
      let exact = connected_exact g end_formed.edges end_formed.lengths in
      let low : 0 < g.n = omega (arith, can.start_in) in
      case b
      (λ t.
      let every : (v : ℕ) → v < g.n → Path g s v (label v) = λ v l. k.path v l (ltb-true _ _ (all-at g.n _ (sym e ∙ t) v l)) in
      t ∙ sym (exact.1 (λ v l. (label 0 + label v, path_join g (path_turn g (every 0 low)) (every v l)))))
      (λ t.
      let z = all_missed g.n (λ v. ltb (label v) unreached) (sym e ∙ t) in
      t ∙ sym (is_false (connected g) (λ h.
      let p = exact.0 h s can.start_in in
      let q = exact.0 h z.0 z.1.0 in
      clash (lt-ltb _ _ (path-reached (path_join g (path_turn g p.1) q.1) refl)) z.1.1)))

  label_distance : connected g ≡ true → ((v : ℕ) → v < g.n → label v < unreached) → (v : ℕ) → v < g.n → label v ≡ distance g s v
  label_distance c every v l =
      let a : Accepted g = record { vertices = end_formed.vertices; lists = end_formed.lists; edges = end_formed.edges; lengths = end_formed.lengths; connected = c } in
      let d = distance_least g a s v can.start_in l in
      let low : label v ≤ label s + distance g s v
      = path-potential g label (λ x y t e. k.feasible y x t (end-settled y (every y (edge_in g end_formed.edges e).1.0)) (edge_turn g e)) (path_turn g d.path) in
      le_antisymm (omega (arith, k.origin)) (d.least (label v) (k.path v l (every v l)))

pub found : {g : Graph} {s : ℕ} → CanSearch g s → {labels : List ℕ} → Searching g s 0 (at labels) → length labels ≡ 64
    → (b : Bool) → b ≡ all g.n (λ v. ltb (at labels v) unreached) → Found g s b labels
found {g} can k size b e = record {
  size = size;
  connects = all-connected can k b e;
  each = λ t. label_distance can k (sym (all-connected can k b e) ∙ t) (λ y i. ltb-true _ _ (all-at g.n _ (sym e ∙ t) y i));
}

-- the labels are handed out if all vertices are reached
pub handed_out : {g : Graph} {s : ℕ} {b : Bool} {labels : List ℕ} {o : Option (List ℕ)} → Found g s b labels → o ≡ then_some b labels
    → MatchOption o (connected g ≡ false) (λ table. Found g s true table)
handed_out {b = true} w e = rw e w
handed_out {b = false} w e = rw e (sym w.connects)
