-- The nearest vertex with a positive amount: its definition step by step, and the document's sentence read off it.
use Prim.Native.Nat.{ℕ, zero, suc, ◌+◌, ◌≤◌, ◌<◌}
use mathlib.Core.Path.{◌≡◌, refl, sym, ap, ◌∙◌}
use mathlib.Core.List.{List}
use native.Mathlib.Numerals.{add-one}
use native.Mathlib.Omega.{arith}
use lib.Dec.{eqb}
use lib.ListN.{length}
use borrow.Author.Tests.{eq-eqb, ne_eqb, lt-ltb, le-ltb, eqb-true}
use Rattle.arithmetic.specs.Refusal.{refusal}
use Rattle.arithmetic.specs.Table.{at}
use Rattle.arithmetic.proofs.Laws.Bools.{case≡, case<}
use Rattle.arithmetic.proofs.Laws.Refusal.{both_pass}
use Rattle.arithmetic.proofs.Laws.Table.{result_refused}
use Rattle.graph.specs.Graph.{Graph}
use Rattle.graph.specs.Checks.{graph_checks}
use Rattle.graph.specs.Distance.{distance}
use Rattle.graph.proofs.Laws.Accepted.{vertices_in, graph-passed, graph_numbered}
use Rattle.distance_queries.specs.Nearest.{nearest_refusal, nearer, nearest, FoundNearest, IsNearest}

-- ---- one vertex more
module _ (d amounts : ℕ → ℕ) (best v : ℕ) where
  pub nearer_empty : amounts v ≡ 0 → best ≡ nearer d amounts best v
  unfolding nearer
  nearer_empty e = rw (le-ltb 0 (amounts v) (omega arith))

  pub nearer_first : (amounts v ≡ 0 → ⊥) → best ≡ 64 → v ≡ nearer d amounts best v
  unfolding nearer
  nearer_first h e = rw (lt-ltb 0 (amounts v) (omega arith), eq-eqb best 64 e)

  pub nearer_this : (amounts v ≡ 0 → ⊥) → (best ≡ 64 → ⊥) → d v < d best → v ≡ nearer d amounts best v
  unfolding nearer
  nearer_this h b l = rw (lt-ltb 0 (amounts v) (omega arith), ne_eqb best 64 b, lt-ltb (d v) (d best) l)

  pub nearer_best : (amounts v ≡ 0 → ⊥) → (best ≡ 64 → ⊥) → d best ≤ d v → best ≡ nearer d amounts best v
  unfolding nearer
  nearer_best h b l = rw (lt-ltb 0 (amounts v) (omega arith), ne_eqb best 64 b, le-ltb (d v) (d best) l)

  -- the four cases, each with what it gives
  nearer_case : {A : Type 0} → (amounts v ≡ 0 → best ≡ nearer d amounts best v → A)
      → (0 < amounts v → best ≡ 64 → v ≡ nearer d amounts best v → A)
      → (0 < amounts v → (best ≡ 64 → ⊥) → d v < d best → v ≡ nearer d amounts best v → A)
      → (0 < amounts v → (best ≡ 64 → ⊥) → d best ≤ d v → best ≡ nearer d amounts best v → A) → A
  nearer_case empty first this old =
      case≡ (amounts v) 0
      (λ e. empty e (nearer_empty e))
      (λ h. case≡ best 64
      (λ e. first (omega arith) e (nearer_first h e))
      (λ b. case< (d v) (d best) (λ l. this (omega arith) b l (nearer_this h b l)) (λ l. old (omega arith) b l (nearer_best h b l))))

pub nearest_none : (d amounts : ℕ → ℕ) → 64 ≡ nearest d amounts 0
unfolding nearest
nearest_none d amounts = refl

pub nearest-step : (d amounts : ℕ → ℕ) (v best best' : ℕ) → best ≡ nearest d amounts v → best' ≡ nearer d amounts best v → best' ≡ nearest d amounts (v + 1)
unfolding nearest
nearest-step d amounts v best best' e h = rw (add-one, ← e) h

-- ---- the sentence
module _ (d amounts : ℕ → ℕ) where
  is_nearest : (n : ℕ) → n ≤ 64 → IsNearest d amounts n (nearest d amounts n)
  unfolding nearest
  is_nearest zero h = record {
    none = λ e x l. absurd (omega arith);
    vertex = λ b. absurd (b refl);
    positive = λ b. absurd (b refl);
    least = λ x l. absurd (omega arith);
    lowest = λ x l. absurd (omega arith);
  }
  is_nearest (suc n) h =
      let k = is_nearest n (omega arith) in
      let b = nearest d amounts n in
      nearer_case d amounts b n
      (λ e q. rw (← q) (record {
        none = λ z x l. case≡ x n (λ s. rw s e) (λ s. k.none z x (omega arith));
        vertex = λ z. omega (arith, k.vertex z);
        positive = k.positive;
        least = λ x l p. case≡ x n (λ s. absurd (omega (arith, e, ap amounts s))) (λ s. k.least x (omega arith) p);
        lowest = λ x l p. case≡ x n (λ s. absurd (omega (arith, e, ap amounts s))) (λ s. k.lowest x (omega arith) p);
      }))
      (λ p z q. rw (← q) (record {
        none = λ s. absurd (omega arith);
        vertex = λ s. omega arith;
        positive = λ s. p;
        least = λ x l a. case≡ x n (λ s. omega (arith, ap d s)) (λ s. absurd (omega (arith, k.none z x (omega arith))));
        lowest = λ x l a s. case≡ x n (λ r. omega arith) (λ r. absurd (omega (arith, k.none z x (omega arith))));
      }))
      (λ p z less q. rw (← q) (record {
        none = λ s. absurd (omega arith);
        vertex = λ s. omega arith;
        positive = λ s. p;
        least = λ x l a. case≡ x n (λ s. omega (arith, ap d s)) (λ s. omega (arith, k.least x (omega arith) a));
        lowest = λ x l a s. case≡ x n (λ r. omega arith) (λ r. absurd (omega (arith, k.least x (omega arith) a)));
      }))
      (λ p z more q. rw (← q) (record {
        none = λ s. absurd (z s);
        vertex = λ s. omega (arith, k.vertex z);
        positive = k.positive;
        least = λ x l a. case≡ x n (λ s. omega (arith, ap d s)) (λ s. k.least x (omega arith) a);
        lowest = λ x l a s. case≡ x n (λ r. omega (arith, k.vertex z)) (λ r. k.lowest x (omega arith) a s);
      }))

  -- one number alone is it
  pub only_nearest : (n v w : ℕ) → IsNearest d amounts n v → IsNearest d amounts n w → v ≡ w
  only_nearest n v w p q =
      case≡ v 64
      (λ e. case≡ w 64 (λ f. e ∙ sym f) (λ f. absurd (omega (arith, q.positive f, p.none e w (q.vertex f)))))
      (λ e. case≡ w 64
      (λ f. absurd (omega (arith, p.positive e, q.none f v (p.vertex e))))
      (λ f.
      let same : d v ≡ d w = omega (arith, p.least w (q.vertex f) (q.positive f), q.least v (p.vertex e) (p.positive e)) in
      omega (arith, p.lowest w (q.vertex f) (q.positive f) (sym same), q.lowest v (p.vertex e) (p.positive e) same)))

-- ---- the call

-- the distances of vertices alone count
pub nearest-found : (g : Graph) (start : ℕ) (table amounts : List ℕ) → g.n ≤ 64 → ((v : ℕ) → v < g.n → at table v ≡ distance g start v)
    → (v : ℕ) → v ≡ nearest (at table) (at amounts) g.n → v ≡ nearest (distance g start) (at amounts) g.n
nearest-found g start table amounts few each v e =
    only_nearest (distance g start) (at amounts) g.n v _ (moved (rw (← e) at (is_nearest (at table) (at amounts) g.n few)))
    (is_nearest (distance g start) (at amounts) g.n few)
  where
    moved : IsNearest (at table) (at amounts) g.n v → IsNearest (distance g start) (at amounts) g.n v
    moved p = record {
      none = p.none;
      vertex = p.vertex;
      positive = p.positive;
      least = λ x l a. let here = each v (p.vertex (some x l a)) in omega (arith, here, each x l, p.least x l a);
      lowest = λ x l a s. let here = each v (p.vertex (some x l a)) in p.lowest x l a (omega (arith, here, each x l));
    }
      where
        some : (x : ℕ) → x < g.n → 0 < at amounts x → v ≡ 64 → ⊥
        some x l a z = omega (arith, p.none z x l)

-- what checks 1 to 5 leave, with a painting that is n long
pub graph_painted : (g : Graph) (amounts : List ℕ) (r : ℕ) → r ≡ refusal (graph_checks g (eqb (length amounts) g.n)) → r ≡ 0
    → (g.n ≤ 64) × (length amounts ≡ g.n)
graph_painted g amounts r e z =
    let k = graph-passed g (eqb (length amounts) g.n) (sym e ∙ z) in
    ((vertices_in g.n k.0.vertices).1, eqb-true _ _ k.1)

pub nearest_refused : (g : Graph) (start : ℕ) (amounts : List ℕ) (k : ℕ) → k ≡ nearest_refusal g start amounts → (k ≡ 0 → ⊥)
    → FoundNearest g start amounts k 0
nearest_refused g start amounts k e d = record { refusal = e; vertex_is = result_refused k _ d }

nearest_few : (g : Graph) (start : ℕ) (amounts : List ℕ) → nearest_refusal g start amounts ≡ 0 → g.n ≤ 64
unfolding nearest_refusal
nearest_few g start amounts h =
    (graph_painted g amounts _ refl (both_pass (graph_checks g (eqb (length amounts) g.n)) _ (graph_numbered g (eqb (length amounts) g.n)) h).0).0

-- "the nearest vertex with a positive amount in a given painting, ties to the lowest number, or 64 if no amount is positive"
pub nearest_says : (g : Graph) (start : ℕ) (amounts : List ℕ) (k vertex : ℕ) → FoundNearest g start amounts k vertex → k ≡ 0
    → IsNearest (distance g start) (at amounts) g.n vertex
nearest_says g start amounts k vertex w z =
    let e : vertex ≡ nearest (distance g start) (at amounts) g.n = w.vertex_is ∙ rw z in
    rw e (is_nearest (distance g start) (at amounts) g.n (nearest_few g start amounts (sym w.refusal ∙ z)))
