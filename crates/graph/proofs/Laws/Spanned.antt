-- An accepted graph has a spanning tree with root 0: each other vertex hangs by an edge on one that an earlier round of marking reached.
use Prim.Native.Nat.{ℕ, zero, suc, ◌≤◌, ◌<◌}
use mathlib.Core.Path.{◌≡◌, refl, sym, ◌∙◌}
use mathlib.Core.Bool.{true, false, not, cond}
use native.Mathlib.Omega.{arith}
use lib.Dec.{eqb}
use borrow.Author.Tests.{eqb-true, eq-eqb, ne_eqb}
use Rattle.arithmetic.specs.Sum.{sum, pick}
use Rattle.arithmetic.proofs.Laws.Bools.{case, case≡, case≤, clash, is_false, all-at}
use Rattle.arithmetic.proofs.Laws.Sum.{sum_lt}
use Rattle.rooted_tree.proofs.Laws.Rooted.{rooted_of_rank}
use Rattle.graph.specs.Graph.{Graph, joined}
use Rattle.graph.specs.SpanningTree.{SpanningTree}
use Rattle.graph.specs.Checks.{marked, reached, connected}
use Rattle.graph.specs.Steps.Accepted.{Accepted}
use Rattle.graph.proofs.Laws.Accepted.{vertices_in}
use Rattle.graph.proofs.Laws.Edge.{edge_turn, edge_joined, joined_in}
use Rattle.graph.proofs.Laws.Connected.{Reached, reached_in, reached-zero, reached_more, reached_back}

-- a function of what each number below n has
chosen : {P : ℕ → ℕ → Type 0} (n : ℕ) → ((v : ℕ) → v < n → (x : ℕ) × P v x) → (p : ℕ → ℕ) × ((v : ℕ) → v < n → P v (p v))
chosen zero h = (λ v. 0, λ v l. absurd (omega arith))
chosen {P} (suc n) h =
    let r = chosen {P = P} n (λ v l. h v (omega arith)) in
    let z = h n (omega arith) in (
      λ v. cond (eqb v n) z.0 (r.0 v),
      λ v l. case≡ v n (λ e. rw (e, eq-eqb n n refl) z.1) (λ d. rw (ne_eqb v n d) (r.1 v (omega arith))),
    )

module _ (g : Graph) where
  reached_later : (j k v : ℕ) → j ≤ k → Reached g j v → Reached g k v
  reached_later j zero v l h = let e : j ≡ 0 = omega arith in rw e at h
  reached_later j (suc k) v l h =
      case≤ j k
      (λ m. reached_more g k v (reached_later j k v m h))
      (λ m. let e : j ≡ suc k = omega arith in rw e at h)

  -- how many of the n rounds do not reach v
  rank : ℕ → ℕ
  rank v = sum g.n (λ k. pick (not (marked (reached g k) v)) 1)

  -- x is reached by a round that does not reach v
  rank_falls : (k x v : ℕ) → k < g.n → Reached g k x → marked (reached g k) v ≡ false → rank x < rank v
  unfolding rank
  rank_falls k x v l hx hv =
      sum_lt g.n _ _ k l (rw (hx, hv) (omega arith))
      (λ j m. case (marked (reached g j) x)
      (λ e. rw e (omega arith))
      (λ e. rw (
        e,
        is_false _ (λ h. case≤ j k
            (λ q. clash (reached_later j k v q h) hv)
            (λ q. clash (reached_later k j x (omega arith) hx) e)),
      ) (omega arith)))

  -- v hangs on x
  record Hangs (v x : ℕ) : Type 0 where
    root : v ≡ 0 → x ≡ 0
    edge : (v ≡ 0 → ⊥) → joined g v x ≡ true
    falls : (v ≡ 0 → ⊥) → rank x < rank v

  reached-hangs : (k v : ℕ) → k ≤ g.n → Reached g k v → (v ≡ 0 → ⊥) → (x : ℕ) × Hangs v x
  reached-hangs zero v l h d = absurd (d (eqb-true v 0 (sym (reached-zero g v (reached_in g 0 v h)) ∙ h)))
  reached-hangs (suc k) v l h d =
      case (marked (reached g k) v)
      (λ e. reached-hangs k v (omega arith) e d)
      (λ e. reached_back g k v h
      (λ r. clash r e)
      (λ x s r t. (
        x,
        record {
          root = λ z. absurd (d z);
          edge = λ _. edge_joined g (edge_turn g t);
          falls = λ _. rank_falls k x v (omega arith) r e;
        },
      )))

  module _ (acc : Accepted g) where
    hangs : (v : ℕ) → v < g.n → (x : ℕ) × Hangs v x
    unfolding connected
    hangs v l =
        case≡ v 0
        (λ e. (0, record { root = λ _. refl; edge = λ d. absurd (d e); falls = λ d. absurd (d e) }))
        (λ d. reached-hangs g.n v (omega arith) (all-at g.n (marked (reached g g.n)) acc.connected v l) d)

    pub spanned : (p : ℕ → ℕ) × SpanningTree g 0 p
    spanned =
        let some = (vertices_in g.n acc.vertices).0 in
        let c = chosen {P = Hangs} g.n hangs in
        let p = c.0 in
        let root = (c.1 0 some).root refl in
        let into : (v : ℕ) → v < g.n → p v < g.n = λ v l. case≡ v 0 (λ e. rw (e, root) some) (λ d. (joined_in g acc.edges v (p v) ((c.1 v l).edge d)).1.0) in
        let tree = rooted_of_rank g.n 0 p rank some root into (λ v l d. (c.1 v l).falls d) in (
          p,
          record { root = some; stay = root; edge = λ v l d. (c.1 v l).edge d; chain = λ v l. (g.n, tree.up v l) },
        )
