-- Document 01, "Plan, in an order that this text sets", and its moves.
use Rattle.std.specs.Prelude.{ℕ, zero, suc, ◌+◌, ◌-◌, min, Bool, not, cond, ◌&&◌, eqb, ltb}
use Rattle.arithmetic.specs.Sum.{sum, pick}
use Rattle.vertex_set.specs.Lowest.{lowest}
use Rattle.rooted_tree.specs.Chain.{below, depth}

-- a plan that is being made: what i sends to j, and the residue, what remains of ξ: the surplus where it is positive, the deficit where
-- it is negative
pub record PartialPlan : Type 0 where
  pub sent : ℕ → ℕ → ℕ
  pub surplus : ℕ → ℕ
  pub deficit : ℕ → ℕ

-- f, but v at i
abbrev pub changed : {A : Type 0} → (ℕ → A) → ℕ → A → ℕ → A
changed f i v x = cond (eqb x i) v (f x)

-- "First each (x, x) gets the smaller of mu(x) and nu(x), and what remains of ξ is the residue"
abbrev pub started : (ℕ → ℕ) → (ℕ → ℕ) → PartialPlan
started mu nu = record {
  sent = λ i j. pick (eqb i j) (min (mu i) (nu i));
  surplus = λ x. mu x - nu x;
  deficit = λ x. nu x - mu x;
}

-- i "sends to" j v
abbrev pub sends : PartialPlan → ℕ → ℕ → ℕ → PartialPlan
sends s i j v = record {
  sent = changed s.sent i (changed (s.sent i) j (s.sent i j + v));
  surplus = changed s.surplus i (s.surplus i - v);
  deficit = changed s.deficit j (s.deficit j - v);
}

-- "the lowest-numbered with positive residue" among the vertices below w that b tells, and that with negative residue; n if none
abbrev pub sender : ℕ → (ℕ → Bool) → PartialPlan → ℕ
sender n b s = lowest (λ x. b x && ltb 0 (s.surplus x)) n 0

abbrev pub receiver : ℕ → (ℕ → Bool) → PartialPlan → ℕ
receiver n b s = lowest (λ x. b x && ltb 0 (s.deficit x)) n 0

-- one move: "the smaller of the two sizes", unless "one side is empty"
unfoldable pub moved : ℕ → (ℕ → Bool) → PartialPlan → PartialPlan
moved n b s =
    cond (ltb (sender n b s) n && ltb (receiver n b s) n)
    (sends s (sender n b s) (receiver n b s) (min (s.surplus (sender n b s)) (s.deficit (receiver n b s)))) s

-- at most k moves; n are enough, since each empties a vertex
unfoldable pub matched : ℕ → (ℕ → Bool) → ℕ → PartialPlan → PartialPlan
matched n b zero s = s
matched n b (suc k) s = matched n b k (moved n b s)

-- the vertices below k of depth d, "by rising number"
unfoldable pub layer : ℕ → ℕ → (ℕ → ℕ) → ℕ → ℕ → PartialPlan → PartialPlan
layer n r p d zero s = s
layer n r p d (suc k) s =
    cond (eqb (depth p r n k) d) (matched n (λ y. below p n y k) n (layer n r p d k s)) (layer n r p d k s)

-- "Then vertices are taken by falling depth": those of a depth below d
unfoldable pub layers : ℕ → ℕ → (ℕ → ℕ) → ℕ → PartialPlan → PartialPlan
layers n r p zero s = s
layers n r p (suc d) s = layers n r p d (layer n r p d n s)

-- the plan: what i sends to j when all vertices are taken; no depth is n or more
unfoldable pub plan : ℕ → ℕ → (ℕ → ℕ) → (ℕ → ℕ) → (ℕ → ℕ) → ℕ → ℕ → ℕ
plan n r p mu nu = (layers n r p n (started mu nu)).sent

-- "Moves: the number of positive entries off the diagonal"
unfoldable pub moves : ℕ → (ℕ → ℕ → ℕ) → ℕ
moves n t = sum n (λ i. sum n (λ j. pick (not (eqb i j) && ltb 0 (t i j)) 1))
