-- Paths of edges and their lengths (document 01's ways).
-- Paths, and the steps of Floyd and Warshall's definition `via`: closed under the triangle, and each number below far a path's length.
use Prim.Native.Nat.{ℕ, ◌≤◌, zero, suc, ◌+◌, ◌<◌}
use mathlib.Core.Path.{◌≡◌}
use mathlib.Core.Bool.{true}
use native.Mathlib.Nat.{add-zero, zero-add, add_assoc, add_comm}
use native.Mathlib.Omega.{arith}
use borrow.Author.Tests.{ne_eqb}
use Rattle.arithmetic.proofs.Laws.Bools.{case, case≡, case≤, eqb_self}
use Rattle.graph.specs.Graph.{Graph, joined}
use Rattle.graph.specs.Distance.{far, via, distance}
use Rattle.graph.specs.Checks.{edges_ok, lengths_ok}
use Rattle.graph.specs.Steps.Path.{Path, Edge, stay, step}
use Rattle.graph.proofs.Laws.Edge.{edge_turn, edge_joined, edge_size, edge_in, joined_edge, edge_length_most}

-- "the least sum of lengths over all ways of edges from i to j"
pub record Least (g : Graph) (i j d : ℕ) : Type 0 where
  pub path : Path g i j d
  pub least : (s : ℕ) → Path g i j s → d ≤ s

module _ (g : Graph) where
  -- a path after a path
  pub path_join : {i k j s t : ℕ} → Path g i k s → Path g k j t → Path g i j (s + t)
  path_join p stay = rw add-zero p
  path_join p (step q e) = rw (← add_assoc) (step (path_join p q) e)

  pub path_edge : {x y s : ℕ} → Edge g x y s → Path g x y s
  path_edge e = rw zero-add at (step stay e)

  -- a path, back
  pub path_turn : {i j s : ℕ} → Path g i j s → Path g j i s
  path_turn stay = stay
  path_turn (step p e) = rw add_comm (path_join (path_edge (edge_turn g e)) (path_turn p))

  -- the length by an equation
  sized : {i j s : ℕ} (t : ℕ) → t ≡ s → Path g i j s → Path g i j t
  sized t e p = rw e p

  -- a potential within each edge's length falls by no more than a path's length along it
  pub path-potential : (U : ℕ → ℕ) → ((x y t : ℕ) → Edge g x y t → U x ≤ U y + t)
      → {i j s : ℕ} → Path g i j s → U i ≤ U j + s
  path-potential U h stay = omega arith
  path-potential U h (step p e) = omega (arith, path-potential U h p, h _ _ _ e)

  pub via_self : (k i : ℕ) → via g k i i ≡ 0
  unfolding via
  via_self zero i = rw eqb_self
  via_self (suc k) i = omega (arith, via_self k i)

  via_less : (k i j : ℕ) → via g k i j ≤ via g 0 i j
  unfolding via
  via_less zero i j = omega arith
  via_less (suc k) i j = omega (arith, via_less k i j)

  -- no way round by a vertex below k is shorter
  pub via-triangle : (k v i j : ℕ) → v < k → via g k i j ≤ via g k i v + via g k v j
  unfolding via
  via-triangle zero v i j h = absurd (omega arith)
  via-triangle (suc k) v i j h =
      case≡ v k
      (λ e. rw e (omega (arith, via_self k k)))
      (λ d.
      let l : v < k = omega arith in
      omega (arith, via-triangle k v i j l, via-triangle k v i k l, via-triangle k v k j l))

  module _ (ok : edges_ok g ≡ true) where
    -- what the method starts from
    start_edge : {x y s : ℕ} → Edge g x y s → via g 0 x y ≡ s
    unfolding via
    start_edge {x} {y} e = rw (ne_eqb x y (edge_in g ok e).1.1, edge_joined g e) (edge_size g ok e)

    pub via_edge : (k : ℕ) {x y s : ℕ} → Edge g x y s → via g k x y ≤ s
    via_edge k {x} {y} e = omega (arith, via_less k x y, start_edge e)

    pub via-path : (k i j : ℕ) → via g k i j < far → Path g i j (via g k i j)
    unfolding via
    via-path zero i j h =
        case≡ i j
        (λ e. rw (e, eqb_self) stay)
        (λ d. case (joined g i j)
        (λ e. rw (ne_eqb i j d, e) (path_edge (joined_edge g ok i j e)))
        (λ e. absurd (omega (arith, rw (ne_eqb i j d, e) at h))))
    via-path (suc k) i j h =
        case≤ (via g k i j) (via g k i k + via g k k j)
        (λ l. sized _ (omega arith) (via-path k i j (omega arith)))
        (λ l. sized _ (omega arith) (path_join (via-path k i k (omega arith)) (via-path k k j (omega arith))))

    -- no path is shorter than the distance of its ends
    pub distance-below : {i j s : ℕ} → Path g i j s → distance g i j ≤ s
    unfolding distance
    distance-below {i} stay = omega (arith, via_self g.n i)
    distance-below {i} (step {x = x} {y = y} p e) =
        omega (arith, via-triangle g.n x i y (edge_in g ok e).0, distance-below p, via_edge g.n e)

    module _ (short : lengths_ok g ≡ true) where
      pub via-far : (k i j : ℕ) → via g k i j ≤ far
      unfolding via
      via-far zero i j =
          case≡ i j
          (λ e. rw (e, eqb_self) (omega arith))
          (λ d. case (joined g i j)
          (λ e. rw (ne_eqb i j d, e) (omega (arith, edge_length_most g ok short i j)))
          (λ e. rw (ne_eqb i j d, e) (omega arith)))
      via-far (suc k) i j = omega (arith, via-far k i j)
