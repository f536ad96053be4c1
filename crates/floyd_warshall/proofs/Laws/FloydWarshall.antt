-- The loops of Floyd and Warshall's method, each by what its table reads after so many turns.
use Prim.Native.Nat.{ℕ, ◌+◌, ◌*◌, ◌≤◌, ◌<◌, min}
use mathlib.Core.Path.{◌≡◌, refl, sym, ap, ◌∙◌}
use mathlib.Core.Bool.{Bool, true, false, cond, ◌&&◌, or-false}
use mathlib.Core.List.{List}
use mathlib.Core.Logic.{inl, inr, ⊎_elim}
use native.Mathlib.Nat.{add-zero}
use native.Mathlib.Numerals.{add-one}
use native.Mathlib.Omega.{arith}
use lib.Dec.{eqb, ltb}
use lib.ListN.{length, set, length-set}
use borrow.Author.Tests.{eqb-true, eq-eqb, ne_eqb, lt-ltb, le-ltb}
use Rattle.arithmetic.specs.Bools.{any}
use Rattle.arithmetic.specs.Sum.{sum, pick}
use Rattle.arithmetic.specs.Table.{at}
use Rattle.arithmetic.specs.Steps.Table.{cell}
use Rattle.arithmetic.specs.Steps.Matrix.{filled}
use Rattle.arithmetic.proofs.Laws.Bools.{case, case≡, case<, clash, is_false, and_l, and_r, and-true, eqb_self, or_true_r, any_none, any_step}
use Rattle.arithmetic.proofs.Laws.Sum.{sum_step, sum_zeros}
use Rattle.arithmetic.proofs.Laws.Matrix.{filled_at, filled_ext, filled_over, filled-length, filled_store, filled_self}
use Rattle.graph.specs.Graph.{Graph, edges, joins, joined, edge_length}
use Rattle.graph.specs.Checks.{edges_ok, lengths_ok}
use Rattle.graph.specs.Distance.{far, via, distance}
use Rattle.graph.proofs.Laws.Edge.{joins_ends, ends_joins, edge_order, same_edge}
use Rattle.graph.proofs.Laws.Path.{via_self, via-far}
use Rattle.floyd_warshall.specs.Steps.FloydWarshall.{Bounded, shorter}

-- l is lent, with f's table in it
pub record Fills (n : ℕ) (f : ℕ → ℕ → ℕ) (lent l : List ℕ) : Type 0 where
  pub long : length l ≡ length lent
  pub table : l ≡ filled n f lent

module _ (n : ℕ) where
  fills_at : (f : ℕ → ℕ → ℕ) (lent l : List ℕ) → l ≡ filled n f lent → (i j : ℕ) → i < n → j < n → cell n l i j ≡ f i j
  fills_at f lent l e i j hi hj = rw e (filled_at n f lent i j hi hj)

  fills_self : (f : ℕ → ℕ → ℕ) (l : List ℕ) → n * n ≤ length l → ((i j : ℕ) → i < n → j < n → cell n l i j ≡ f i j) → Fills n f l l
  fills_self f l room h = record { long = refl; table = filled_self n f l room h }

  fills_ext : (f h : ℕ → ℕ → ℕ) (lent l : List ℕ) → Fills n f lent l → ((i j : ℕ) → i < n → j < n → f i j ≡ h i j) → l ≡ filled n h lent
  fills_ext f h lent l r e = r.table ∙ filled_ext n f lent h e

  fills_store : (f h : ℕ → ℕ → ℕ) (lent l : List ℕ) (i j v : ℕ) → n * n ≤ length lent → i < n → j < n → Fills n f lent l
      → h i j ≡ v → ((x y : ℕ) → x < n → y < n → (x ≡ i → y ≡ j → ⊥) → h x y ≡ f x y) → Fills n h lent (set l (i * n + j) v)
  fills_store f h lent l i j v room hi hj r here away = record {
    long = length-set l (i * n + j) v ∙ r.long;
    table = filled_store n f h lent l i j v room hi hj r.table here away;
  }

  -- a table over a table
  fills_then : (f h t : ℕ → ℕ → ℕ) (lent l m : List ℕ) → l ≡ filled n f lent → m ≡ filled n h l
      → ((i j : ℕ) → i < n → j < n → h i j ≡ t i j) → m ≡ filled n t lent
  fills_then f h t lent l m el em e =
      em ∙ ap (λ (z : List ℕ). filled n h z) el ∙ filled_over n f lent h ∙ filled_ext n h lent t e

-- ---- a loop's count p, past t or not: a in place of b where q holds
abbrev upto : ℕ → ℕ → Bool → ℕ → ℕ → ℕ
upto p t q a b = cond (ltb t p && q) a b

upto_later : (p t : ℕ) (q : Bool) (a b : ℕ) → p ≤ t → upto p t q a b ≡ b
upto_later p t q a b h = rw (le-ltb t p h)

upto_past : (p t : ℕ) (q : Bool) (a b : ℕ) → t < p → upto p t q a b ≡ cond q a b
upto_past p t q a b h = rw (lt-ltb t p h)

upto_more : (p t : ℕ) (q : Bool) (a b : ℕ) → (t ≡ p → q ≡ true → ⊥) → upto (p + 1) t q a b ≡ upto p t q a b
upto_more p t q a b h =
    case< t p
    (λ l. upto_past (p + 1) t q a b (omega arith) ∙ sym (upto_past p t q a b l))
    (λ l. case≡ t p
    (λ e. upto_past (p + 1) t q a b (omega arith) ∙ ap (λ (z : Bool). cond z a b) (is_false q (h e)) ∙ sym (upto_later p t q a b l))
    (λ d. upto_later (p + 1) t q a b (omega arith) ∙ sym (upto_later p t q a b l)))

-- ---- 0 on the diagonal
abbrev pub diagonal_to : ℕ → (ℕ → ℕ → ℕ) → ℕ → ℕ → ℕ
diagonal_to i f x y = upto i x (eqb x y) 0 (f x y)

module _ (n : ℕ) (l : List ℕ) (room : n * n ≤ length l) where
  pub diagonal_none : Fills n (diagonal_to 0 (cell n l)) l l
  diagonal_none = fills_self n (diagonal_to 0 (cell n l)) l room (λ x y hx hy. sym (upto_later 0 x (eqb x y) 0 (cell n l x y) (omega arith)))

  pub diagonal_more : (i : ℕ) (m o : List ℕ) → i < n → Fills n (diagonal_to i (cell n l)) l m → o ≡ set m (i * n + i) 0
      → Fills n (diagonal_to (i + 1) (cell n l)) l o
  diagonal_more i m o hi r e =
      rw e (fills_store n (diagonal_to i (cell n l)) (diagonal_to (i + 1) (cell n l)) l m i i 0 room hi hi r
      (upto_past (i + 1) i (eqb i i) 0 (cell n l i i) (omega arith) ∙ rw (eqb_self i))
      (λ x y hx hy d. upto_more i x (eqb x y) 0 (cell n l x y) (λ e q. d e (sym (eqb-true x y q) ∙ e))))

  pub diagonal_end : (i : ℕ) (m : List ℕ) → i ≤ n → n ≤ i → Fills n (diagonal_to i (cell n l)) l m
      → m ≡ filled n (λ x y. cond (eqb x y) 0 (cell n l x y)) l
  diagonal_end i m p q r =
      fills_ext n _ _ l m r (λ x y hx hy. upto_past i x (eqb x y) 0 (cell n l x y) (omega arith))

-- ---- edges

-- f with the edges before e
abbrev pub edges_to : Graph → ℕ → (ℕ → ℕ → ℕ) → ℕ → ℕ → ℕ
edges_to g e f x y = cond (any e (λ d. joins g d x y)) (sum e (λ d. pick (joins g d x y) (at g.lengths d))) (f x y)

module _ (g : Graph) (ok : edges_ok g ≡ true) (f : ℕ → ℕ → ℕ) (e : ℕ) (he : e < edges g) (x y : ℕ) where
  edges_here : joins g e x y ≡ true → edges_to g (e + 1) f x y ≡ at g.lengths e
  edges_here h =
      rw (any_step e (λ d. joins g d x y), or_true_r (any e (λ d. joins g d x y)) (joins g e x y) h, sum_step e (λ d. pick (joins g d x y) (at g.lengths d)), h)
      (omega (arith, none))
    where
      none : sum e (λ d. pick (joins g d x y) (at g.lengths d)) ≡ 0
      none =
          sum_zeros e (λ d. pick (joins g d x y) (at g.lengths d))
          (λ d l. rw (is_false (joins g d x y) (λ t. omega (arith, same_edge g ok x y d e (omega arith) he t h))))

  edges_away : joins g e x y ≡ false → edges_to g (e + 1) f x y ≡ edges_to g e f x y
  edges_away h =
      rw (
        any_step e (λ d. joins g d x y),
        sum_step e (λ d. pick (joins g d x y) (at g.lengths d)),
        h,
        or-false (any e (λ d. joins g d x y)),
        add-zero (sum e (λ d. pick (joins g d x y) (at g.lengths d))),
      )

module _ (g : Graph) (ok : edges_ok g ≡ true) (l : List ℕ) (room : g.n * g.n ≤ length l) where
  pub edges_none : Fills g.n (edges_to g 0 (cell g.n l)) l l
  edges_none = fills_self g.n (edges_to g 0 (cell g.n l)) l room (λ x y hx hy. rw (any_none (λ d. joins g d x y)))

  -- edge e, both ways
  pub edges_more : (e : ℕ) (m o q : List ℕ) → e < edges g → Fills g.n (edges_to g e (cell g.n l)) l m
      → o ≡ set m (at g.lower e * g.n + at g.upper e) (at g.lengths e)
      → q ≡ set o (at g.upper e * g.n + at g.lower e) (at g.lengths e)
      → Fills g.n (edges_to g (e + 1) (cell g.n l)) l q
  edges_more e m o q he r eo eq =
      rw (eq, eo) (fills_store g.n half (edges_to g (e + 1) f) l (set m (a * g.n + b) s) b a s room hb ha
      (fills_store g.n (edges_to g e f) half l m a b s room ha hb r (rw (eqb_self a, eqb_self b)) (λ x y hx hy d. half_off x y d))
      (edges_here g ok f e he b a (ends_joins g e b a (inr (refl, refl))))
      (λ x y hx hy d. case (eqb x a && eqb y b) (both_ends x y) (λ t. no_end x y d t)))
    where
      f : ℕ → ℕ → ℕ
      f = cell g.n l

      a : ℕ
      a = at g.lower e

      b : ℕ
      b = at g.upper e

      s : ℕ
      s = at g.lengths e

      half : ℕ → ℕ → ℕ
      half x y = cond (eqb x a && eqb y b) s (edges_to g e f x y)

      half_off : (x y : ℕ) → (x ≡ a → y ≡ b → ⊥) → half x y ≡ edges_to g e f x y
      half_off x y d =
          rw (is_false (eqb x a && eqb y b)
          (λ t. d (eqb-true x a (and_l (eqb x a) (eqb y b) t)) (eqb-true y b (and_r (eqb x a) (eqb y b) t))))

      both_ends : (x y : ℕ) → eqb x a && eqb y b ≡ true → edges_to g (e + 1) f x y ≡ half x y
      both_ends x y t =
          let p = eqb-true x a (and_l (eqb x a) (eqb y b) t) in
          let q = eqb-true y b (and_r (eqb x a) (eqb y b) t) in
          edges_here g ok f e he x y (ends_joins g e x y (inl (sym p, sym q))) ∙ rw t

      no_end : (x y : ℕ) → (x ≡ b → y ≡ a → ⊥) → eqb x a && eqb y b ≡ false → edges_to g (e + 1) f x y ≡ half x y
      no_end x y d t =
          edges_away g ok f e he x y
          (is_false (joins g e x y) (λ j. ⊎_elim
          (λ p. clash (and-true (eqb x a) (eqb y b) (eq-eqb x a (sym p.0)) (eq-eqb y b (sym p.1))) t)
          (λ p. d (sym p.1) (sym p.0))
          (joins_ends g e x y j)))
          ∙ rw t

      hb : b < g.n
      hb = (edge_order g ok e he).1

      ha : a < g.n
      ha = omega (arith, edge_order g ok e he)

  pub edges-end : (e : ℕ) (m : List ℕ) → e ≤ edges g → edges g ≤ e → Fills g.n (edges_to g e (cell g.n l)) l m
      → m ≡ filled g.n (λ x y. cond (joined g x y) (edge_length g x y) (cell g.n l x y)) l
  unfolding joined edge_length
  edges-end e m p q r = let z : e ≡ edges g = omega arith in rw z at r.table

-- ---- row i of phase k
abbrev pub row_to : ℕ → ℕ → ℕ → (ℕ → ℕ → ℕ) → ℕ → ℕ → ℕ
row_to k i j f x y = upto j y (eqb x i) (shorter f k x y) (f x y)

module _ (n k i : ℕ) (l : List ℕ) (hk : k < n) (hi : i < n) (room : n * n ≤ length l) where
  pub row_none : Fills n (row_to k i 0 (cell n l)) l l
  row_none =
      fills_self n (row_to k i 0 (cell n l)) l room
      (λ x y hx hy. sym (upto_later 0 y (eqb x i) (shorter (cell n l) k x y) (cell n l x y) (omega arith)))

  module _ (j : ℕ) (m : List ℕ) (r : Fills n (row_to k i j (cell n l)) l m) where
    -- column j is still as it was
    pub row_ahead : (x : ℕ) → x < n → j < n → cell n m x j ≡ cell n l x j
    row_ahead x hx hj =
        fills_at n (row_to k i j (cell n l)) l m r.table x j hx hj
        ∙ upto_later j j (eqb x i) (shorter (cell n l) k x j) (cell n l x j) (omega arith)

    pub row_more : (first v : ℕ) → j < n → first ≡ cell n l i k → v ≡ min (cell n m i j) (first + cell n m k j)
        → Fills n (row_to k i (j + 1) (cell n l)) l (set m (i * n + j) v)
    row_more first v hj ef ev =
        fills_store n (row_to k i j (cell n l)) (row_to k i (j + 1) (cell n l)) l m i j v room hi hj r
        (upto_past (j + 1) j (eqb i i) (shorter (cell n l) k i j) (cell n l i j) (omega arith)
        ∙ ap (λ (z : Bool). cond z (shorter (cell n l) k i j) (cell n l i j)) (eqb_self i)
        ∙ omega (arith, row_ahead i hi hj, row_ahead k hk hj))
        (λ x y hx hy d. upto_more j y (eqb x i) (shorter (cell n l) k x y) (cell n l x y) (λ e q. d (eqb-true x i q) e))

    pub row_end : j ≤ n → n ≤ j → m ≡ filled n (λ x y. cond (eqb x i) (shorter (cell n l) k x y) (cell n l x y)) l
    row_end p q =
        fills_ext n _ _ l m r (λ x y hx hy. upto_past j y (eqb x i) (shorter (cell n l) k x y) (cell n l x y) (omega arith))

-- ---- phase k
abbrev pub phase_to : ℕ → ℕ → (ℕ → ℕ → ℕ) → ℕ → ℕ → ℕ
phase_to k i f x y = upto i x true (shorter f k x y) (f x y)

module _ (n k : ℕ) (l : List ℕ) (hk : k < n) (b : Bounded n l) (z : cell n l k k ≡ 0) where
  pub phase_none : Fills n (phase_to k 0 (cell n l)) l l
  phase_none =
      fills_self n (phase_to k 0 (cell n l)) l b.room
      (λ x y hx hy. sym (upto_later 0 x true (shorter (cell n l) k x y) (cell n l x y) (omega arith)))

  module _ (i : ℕ) (m : List ℕ) (r : Fills n (phase_to k i (cell n l)) l m) where
    phase_ahead : (x y : ℕ) → x < n → y < n → i ≤ x → cell n m x y ≡ cell n l x y
    phase_ahead x y hx hy h =
        fills_at n (phase_to k i (cell n l)) l m r.table x y hx hy ∙ upto_later i x true (shorter (cell n l) k x y) (cell n l x y) h

    phase_done : (x y : ℕ) → x < n → y < n → x < i → cell n m x y ≡ shorter (cell n l) k x y
    phase_done x y hx hy h =
        fills_at n (phase_to k i (cell n l)) l m r.table x y hx hy ∙ upto_past i x true (shorter (cell n l) k x y) (cell n l x y) h

    pub phase_bounded : Bounded n m
    phase_bounded = record {
      room = omega (arith, b.room, r.long);
      most = λ x y hx hy. case< x i
          (λ h. omega (arith, phase_done x y hx hy h, b.most x y hx hy))
          (λ h. omega (arith, phase_ahead x y hx hy h, b.most x y hx hy));
    }

    -- row k does not move
    phase_still : (y : ℕ) → y < n → cell n m k y ≡ cell n l k y
    phase_still y hy = case< k i (λ h. omega (arith, phase_done k y hk hy h)) (λ h. phase_ahead k y hk hy h)

    pub phase_more : (o : List ℕ) → i < n → o ≡ filled n (λ x y. cond (eqb x i) (shorter (cell n m) k x y) (cell n m x y)) m
        → Fills n (phase_to k (i + 1) (cell n l)) l o
    phase_more o hi e = record { long = ap length t ∙ filled-length n (phase_to k (i + 1) (cell n l)) l b.room; table = t }
      where
        f : ℕ → ℕ → ℕ
        f = cell n l

        read : (x y : ℕ) → x < n → y < n → cond (eqb x i) (shorter (cell n m) k x y) (cell n m x y) ≡ phase_to k (i + 1) f x y
        read x y hx hy =
            case≡ x i
            (λ p. rw (p, eqb_self i)
            (omega (arith, phase_ahead i y hi hy (omega arith), phase_ahead i k hi hk (omega arith), phase_still y hy)
            ∙ sym (upto_past (i + 1) i true (shorter f k i y) (f i y) (omega arith))))
            (λ p. rw (ne_eqb x i p)
            (fills_at n (phase_to k i f) l m r.table x y hx hy ∙ sym (upto_more i x true (shorter f k x y) (f x y) (λ q _. p q))))

        t : o ≡ filled n (phase_to k (i + 1) f) l
        t = fills_then n (phase_to k i f) _ (phase_to k (i + 1) f) l m o r.table e read

    pub phase_end : i ≤ n → n ≤ i → m ≡ filled n (shorter (cell n l) k) l
    phase_end p q = fills_ext n _ _ l m r (λ x y hx hy. upto_past i x true (shorter (cell n l) k x y) (cell n l x y) (omega arith))

-- ---- all phases

-- far, the edges and the diagonal make what the phases start from
pub via-start : (g : Graph) (l m o q : List ℕ) → m ≡ filled g.n (λ i j. far) l
    → o ≡ filled g.n (λ i j. cond (joined g i j) (edge_length g i j) (cell g.n m i j)) m
    → q ≡ filled g.n (λ i j. cond (eqb i j) 0 (cell g.n o i j)) o → q ≡ filled g.n (via g 0) l
unfolding via
via-start g l m o q em eo eq =
    fills_then g.n edged _ _ l o q (fills_then g.n (λ i j. far) _ edged l m o em eo there) eq
    (λ i j hi hj. ap (λ (z : ℕ). cond (eqb i j) 0 z) (fills_at g.n _ m o eo i j hi hj ∙ there i j hi hj))
  where
    edged : ℕ → ℕ → ℕ
    edged i j = cond (joined g i j) (edge_length g i j) far

    there : (i j : ℕ) → i < g.n → j < g.n → cond (joined g i j) (edge_length g i j) (cell g.n m i j) ≡ edged i j
    there i j hi hj = ap (λ (z : ℕ). cond (joined g i j) (edge_length g i j) z) (fills_at g.n (λ i j. far) l m em i j hi hj)

module _ (g : Graph) (l : List ℕ) (room : g.n * g.n ≤ length l) where
  pub via_none : (lent : List ℕ) → l ≡ filled g.n (via g 0) lent → Fills g.n (via g 0) l l
  via_none lent e = fills_self g.n (via g 0) l room (λ i j hi hj. fills_at g.n (via g 0) lent l e i j hi hj)

  module _ (k : ℕ) (m : List ℕ) (r : Fills g.n (via g k) l m) where
    pub via_bounded : edges_ok g ≡ true → lengths_ok g ≡ true → Bounded g.n m
    via_bounded ok short = record {
      room = omega (arith, room, r.long);
      most = λ i j hi hj. omega (arith, fills_at g.n (via g k) l m r.table i j hi hj, via-far g ok short k i j);
    }

    pub via-zero : (x : ℕ) → x < g.n → cell g.n m x x ≡ 0
    via-zero x h = fills_at g.n (via g k) l m r.table x x h h ∙ via_self g k x

    pub via_more : (o : List ℕ) → k < g.n → o ≡ filled g.n (shorter (cell g.n m) k) m → Fills g.n (via g (k + 1)) l o
    unfolding via
    via_more o hk e = record { long = ap length t ∙ filled-length g.n (via g (k + 1)) l room; table = t }
      where
        read : (i j : ℕ) → i < g.n → j < g.n → shorter (cell g.n m) k i j ≡ via g (k + 1) i j
        read i j hi hj =
            rw (
              add-one,
              fills_at g.n (via g k) l m r.table i j hi hj,
              fills_at g.n (via g k) l m r.table i k hi hk,
              fills_at g.n (via g k) l m r.table k j hk hj,
            )

        t : o ≡ filled g.n (via g (k + 1)) l
        t = fills_then g.n (via g k) _ (via g (k + 1)) l m o r.table e read

    pub via-end : (lent : List ℕ) → k ≤ g.n → g.n ≤ k → l ≡ filled g.n (via g 0) lent → m ≡ filled g.n (distance g) lent
    unfolding distance
    via-end lent p q e =
        let z : k ≡ g.n = omega arith in
        fills_then g.n (via g 0) (via g k) (via g g.n) lent l m e r.table (λ i j hi hj. rw z)
