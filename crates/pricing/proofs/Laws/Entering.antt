-- The entering edge, by Dantzig's rule in blocks: the one of a block of edges that the potential U violates the most, by changing along it by more than its length.
use Rattle.std.proofs.Common.{Option, Some, None, ◌≡◌, ℕ, ◌+◌, ◌-◌, ◌*◌, ◌^◌, ◌<◌, ◌≤◌, min, true, List, length, set, sym, refl, ap, ◌∙◌, ⊎_elim, arith, get_or-set_other, get_or-set_same, below_more}
use Rattle.arithmetic.specs.Table.{at}
use Rattle.arithmetic.specs.Steps.Product.{gap}
use Rattle.arithmetic.proofs.Laws.Bools.{case<}
use Rattle.graph.specs.Graph.{Graph, edges, joined, edge_length}
use Rattle.graph.specs.Steps.Accepted.{Accepted}
use Rattle.graph.proofs.Laws.Accepted.{vertices_in, lists_in}
use Rattle.graph.proofs.Laws.Edge.{edge_up, edge_order, edge_down, edge_joined, edge_size, edge_most}
use Rattle.pricing.specs.Steps.Entering.{violation_at, EdgeFits, Downhill, Largest, MostViolated, Found, Entering, Scaled, AllScaled, scaled_violation, half_unit}

pub edges_few : {g : Graph} → Accepted g → edges g ≤ 512
edges_few {g} accepted = (lists_in g accepted.lists).0

pub edge-fits : {g : Graph} {e : ℕ} → Accepted g → e < edges g → EdgeFits g e
edge-fits {g} {e} accepted here =
    let lists = lists_in g accepted.lists in
    let order = edge_order g accepted.edges e here in
    let few = vertices_in g.n accepted.vertices in
    record {
      here = here;
      upper_here = omega arith;
      length_here = omega arith;
      lower_low = omega arith;
      upper_low = omega arith;
      short = edge_most g accepted.lengths (edge_up g e here);
    }

-- the potential falls along the edge from s to t by more than its length
pub record Falling (g : Graph) (U : List ℕ) (s t long : ℕ) : Type 0 where
  pub s_low : s < g.n
  pub t_low : t < g.n
  pub edge : joined g s t ≡ true
  pub length_is : long ≡ edge_length g s t
  pub falls : at U t + long < at U s

pub falling : {g : Graph} {U : List ℕ} {e s t long : ℕ} → Accepted g → e < edges g → 0 < violation_at g U e → Downhill g U e s t long → Falling g U s t long
falling {g} {U} {e} accepted here violated w =
    let order = edge_order g accepted.edges e here in
    let long = w.long_is in
    let down = w.down in
    ⊎_elim
    (λ k. record {
      s_low = omega arith;
      t_low = omega arith;
      edge = rw (k.0, k.1) (edge_joined g (edge_up g e here));
      length_is = rw (k.0, k.1) (long ∙ sym (edge_size g accepted.edges (edge_up g e here)));
      falls = omega (arith, ap (at U) k.0, ap (at U) k.1);
    })
    (λ k. record {
      s_low = omega arith;
      t_low = omega arith;
      edge = rw (k.0, k.1) (edge_joined g (edge_down g e here));
      length_is = rw (k.0, k.1) (long ∙ sym (edge_size g accepted.edges (edge_down g e here)));
      falls = omega (arith, ap (at U) k.0, ap (at U) k.1);
    })
    w.ends

-- ---- the largest key

-- of the places from `first` to before k, `found` has the largest key, `most`; or none is above the level
abbrev pub FoundSoFar : (key : ℕ → ℕ) (level first k most : ℕ) → Option ℕ → Type 0
FoundSoFar key level first k most None = most ≡ level
FoundSoFar key level first k most (Some e) = (first ≤ e) × ((e < k) × ((most ≡ key e) × (level < most)))

pub record LargestSoFar (key : ℕ → ℕ) (level first k : ℕ) (found : Option ℕ) (most : ℕ) : Type 0 where
  pub largest : (i : ℕ) → i < k → first ≤ i → key i ≤ most
  pub found_is : FoundSoFar key level first k most found

found_level : (found : Option ℕ) (key : ℕ → ℕ) (level first k most : ℕ) → FoundSoFar key level first k most found → level ≤ most
found_level None key level first k most h = omega arith
found_level (Some e) key level first k most h = omega arith

found_more : (found : Option ℕ) (key : ℕ → ℕ) (level first k most : ℕ) → FoundSoFar key level first k most found → FoundSoFar key level first (k + 1) most found
found_more None key level first k most h = h
found_more (Some e) key level first k most h = (h.0, (omega arith, h.1.1))

module _ {key : ℕ → ℕ} {level : ℕ} where
  pub largest_none : (first : ℕ) → LargestSoFar key level first first None level
  largest_none first = record { largest = λ i h l. absurd (omega arith); found_is = refl }

  module _ {first k most x : ℕ} {found : Option ℕ} (w : LargestSoFar key level first k found most) (x-is : x ≡ key k) where
    pub largest_take : first ≤ k → most < x → LargestSoFar key level first (k + 1) (Some k) x
    largest_take from l = record {
      largest = below_more (λ i. first ≤ i → key i ≤ x) k (λ i h f. omega (arith, w.largest i h f)) (λ f. omega (arith, x-is));
      found_is = (from, (omega arith, (x-is, omega (arith, found_level found key level first k most w.found_is))));
    }

    pub largest_keep : x ≤ most → LargestSoFar key level first (k + 1) found most
    largest_keep l = record {
      largest = below_more (λ i. first ≤ i → key i ≤ most) k w.largest (λ f. omega (arith, x-is));
      found_is = found_more found key level first k most w.found_is;
    }

pub largest_end : {m : ℕ} {key : ℕ → ℕ} {level : ℕ} (block : ℕ) {k most : ℕ} (found : Option ℕ) → 64 * block < m → k ≡ min (64 * block + 64) m
    → LargestSoFar key level (64 * block) k found most → Found m key level (64 * block) (64 * block + 64) found
largest_end block None here end w = record {
  none = λ e i l h o. omega (arith, w.largest i (omega arith) l, w.found_is);
  some = λ ne. absurd (ne refl);
  most = λ ne. absurd (ne refl);
}
largest_end block (Some e) here end w = (
  omega (arith, w.found_is),
  record {
    none = λ d. absurd (omega (arith, w.found_is));
    some = λ ne. (omega (arith, w.found_is), omega (arith, w.found_is));
    most = λ ne j i be bi l.
        let q : j ≡ block = omega (arith, w.found_is) in omega (arith, w.found_is, w.largest i (omega arith) (omega arith));
  },
)

module _ {m : ℕ} {key : ℕ → ℕ} {level : ℕ} where
  -- what is found is so among more edges
  pub largest_found : {low' high' e : ℕ} (low high : ℕ) → (e < m) × Largest m key level low' high' e → (e < m) × Largest m key level low high e
  largest_found low high w = (w.0, record { none = λ d. absurd (omega (arith, w.0)); some = w.1.some; most = w.1.most })

-- from a block on nothing is found, to the end, and then what is found before that block
pub largest_second : {m : ℕ} {key : ℕ → ℕ} {level : ℕ} (block blocks : ℕ) → m ≤ 64 * blocks → Largest m key level (64 * block) (64 * blocks) m
    → (found : Option ℕ) → Found m key level (64 * 0) (64 * block) found → Found m key level 0 m found
largest_second block blocks end w None v = record {
  none = λ d i l h o.
      case< i (64 * block)
      (λ q. v.none refl i (omega arith) q o)
      (λ q. w.none refl i q (omega arith) o);
  some = λ ne. absurd (ne refl);
  most = λ ne. absurd (ne refl);
}
largest_second block blocks end w (Some e) v = largest_found 0 _ v

-- ---- what scaled potentials say of the potential
module _ {u w s t : ℕ} (m : Scaled u s) (o : Scaled w t) where
  gap_low : 2 ^ 36 * gap u w ≤ gap s t + 2 ^ 34
  gap_low = omega (arith, m.low, m.high, o.low, o.high)

  gap_high : gap s t ≤ 2 ^ 36 * gap u w + 2 ^ 34
  gap_high = omega (arith, m.low, m.high, o.low, o.high)

-- one vertex more
pub scaled_more : {U S : List ℕ} {v x : ℕ} → x < length S → AllScaled x U S → Scaled (at U x) v → AllScaled (x + 1) U (set S x v)
scaled_more {U} {S} {v} {x} h all here = record {
  each = below_more (λ y. Scaled (at U y) (at (set S x v) y)) x
      (λ y l. rw (get_or-set_other S x y v 0 (λ e. omega arith)) (all.each y l))
      (rw (get_or-set_same S x v 0 h) here);
}

-- a violation that is not larger when scaled is not larger
scaled_le : (d l h d' l' h' : ℕ) → 2 ^ 36 * d ≤ h + 2 ^ 34 → h' ≤ 2 ^ 36 * d' + 2 ^ 34
    → 2 ^ 35 < h' - 2 ^ 36 * l' → h - 2 ^ 36 * l ≤ h' - 2 ^ 36 * l' → d - l ≤ d' - l'
scaled_le d l h d' l' h' low high some le = omega arith

module _ {g : Graph} {U S : List ℕ} (accepted : Accepted g) (scaled : AllScaled g.n U S) where
  ends : {e : ℕ} → e < edges g → Scaled (at U (at g.lower e)) (at S (at g.lower e)) × Scaled (at U (at g.upper e)) (at S (at g.upper e))
  ends {e} l =
      let order = edge_order g accepted.edges e l in
      (scaled.each _ (omega arith), scaled.each _ order.1)

  low : {e : ℕ} → e < edges g → 2 ^ 36 * gap (at U (at g.lower e)) (at U (at g.upper e)) ≤ gap (at S (at g.lower e)) (at S (at g.upper e)) + 2 ^ 34
  low l = gap_low (ends l).0 (ends l).1

  high : {e : ℕ} → e < edges g → gap (at S (at g.lower e)) (at S (at g.upper e)) ≤ 2 ^ 36 * gap (at U (at g.lower e)) (at U (at g.upper e)) + 2 ^ 34
  high l = gap_high (ends l).0 (ends l).1

  pub most-violated : {e : ℕ} → Largest (edges g) (scaled_violation g S) half_unit 0 (edges g) e → MostViolated g U e
  most-violated {e} w = record {
    none = λ d i l h o. omega (arith, w.none d i l h o, low o);
    some = λ ne. let s = w.some ne in (s.0, omega (arith, s.1, high s.0));
    most = λ ne k i be bi l. let s = w.some ne in scaled_le _ _ _ _ _ _ (low l) (high s.0) s.1 (w.most ne k i be bi l);
  }

  pub entering : (found : Option ℕ) → Found (edges g) (scaled_violation g S) half_unit 0 (edges g) found → Entering g U found
  entering None w = most-violated w
  entering (Some e) w = (w.0, most-violated w.1)
