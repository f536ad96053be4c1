-- The moves of the plan's rule, the tree apart: what each move changes and keeps, and that n moves empty one side.
use Prim.Native.Nat.{ℕ, zero, suc, ◌+◌, ◌-◌, ◌≤◌, ◌<◌, min}
use mathlib.Core.Path.{◌≡◌, refl, sym, ap, ◌∙◌}
use mathlib.Core.Bool.{Bool, true, false, ◌&&◌, and-false}
use mathlib.Core.Logic.{◌⊎◌, inl, inr, ⊎_elim}
use native.Mathlib.Omega.{arith}
use lib.Dec.{eqb, ltb}
use borrow.Author.Tests.{ne_eqb, ltb-true, ltb-false, lt-ltb, le-ltb}
use Rattle.arithmetic.specs.Sum.{pick, sum}
use Rattle.arithmetic.proofs.Laws.Bools.{case, case≡, case≤, and_l, and_r, eqb_self}
use Rattle.arithmetic.proofs.Laws.Sum.{pick-le, sum_ext, sum-le, sum_lt, sum_one, sum-add, sum-pick, sum_only, sum_only', sum_ge, sum_zeros}
use Rattle.vertex_set.specs.Lowest.{lowest}
use Rattle.vertex_set.proofs.Laws.Lowest.{lowest-found, lowest_none}
use Rattle.plan_rule.specs.Plan.{PartialPlan, started, changed, sends, sender, receiver, moved, matched}

-- ---- one move

-- s' is s after a move between two vertices of the set b
pub record Move (n : ℕ) (b : ℕ → Bool) (s s' : PartialPlan) : Type 0 where
  pub i : ℕ
  pub j : ℕ
  pub i< : i < n
  pub j< : j < n
  pub i_in : b i ≡ true
  pub j_in : b j ≡ true
  pub has : 0 < s.surplus i
  pub lacks : 0 < s.deficit j
  pub amount : ℕ
  pub smaller : amount ≡ min (s.surplus i) (s.deficit j)
  pub sent : (x y : ℕ) → s'.sent x y ≡ s.sent x y + pick (eqb x i) (pick (eqb y j) amount)
  pub surplus : (x : ℕ) → s'.surplus x + pick (eqb x i) amount ≡ s.surplus x
  pub deficit : (y : ℕ) → s'.deficit y + pick (eqb y j) amount ≡ s.deficit y

-- what a vertex has sent to another and may yet send does not grow
pub move_fits : {n : ℕ} {b : ℕ → Bool} {s s' : PartialPlan} (m : Move n b s s') (x y : ℕ)
    → s'.sent x y + s'.surplus x ≤ s.sent x y + s.surplus x
move_fits m x y =
    case (eqb x m.i)
    (λ e. omega (arith, rw e at (m.sent x y), rw e at (m.surplus x), pick-le (eqb y m.j) m.amount))
    (λ e. omega (arith, rw e at (m.sent x y), rw e at (m.surplus x)))

-- one side of the set b is empty
abbrev pub OneEmpty : ℕ → (ℕ → Bool) → PartialPlan → Type 0
OneEmpty n b s = (sum n (λ x. pick (b x) (s.surplus x)) ≡ 0) ⊎ (sum n (λ x. pick (b x) (s.deficit x)) ≡ 0)

changed_less : (f : ℕ → ℕ) (i v : ℕ) → v ≤ f i → (x : ℕ) → changed f i (f i - v) x + pick (eqb x i) v ≡ f x
changed_less f i v h x = case≡ x i (λ e. rw (e, eqb_self i) (omega arith)) (λ d. rw (ne_eqb x i d) (omega arith))

changed_more : (f : ℕ → ℕ → ℕ) (i j v x y : ℕ)
    → changed f i (changed (f i) j (f i j + v)) x y ≡ f x y + pick (eqb x i) (pick (eqb y j) v)
changed_more f i j v x y =
    case≡ x i
    (λ e. rw (e, eqb_self i) (case≡ y j (λ q. rw (q, eqb_self j)) (λ d. rw (ne_eqb y j d) (omega arith))))
    (λ d. rw (ne_eqb x i d) (omega arith))

-- where the lowest number with the test is n, no vertex of b has any of f
none_left : (n : ℕ) (b : ℕ → Bool) (f : ℕ → ℕ) → n ≤ lowest (λ x. b x && ltb 0 (f x)) n 0 → sum n (λ x. pick (b x) (f x)) ≡ 0
none_left n b f h =
    sum_zeros n _ (λ x l. case (b x)
    (λ e. let z : ltb 0 (f x) ≡ false = rw e at (lowest_none (λ x. b x && ltb 0 (f x)) n 0 (omega arith) x (omega arith) (omega arith)) in
    rw e (omega (arith, ltb-false 0 (f x) z)))
    (λ e. rw e))

-- the vertex that the search finds is in b and has some of f
pub found : (n : ℕ) (b : ℕ → Bool) (f : ℕ → ℕ) (i : ℕ) → lowest (λ x. b x && ltb 0 (f x)) n 0 ≡ i → i < n → (b i ≡ true) × (0 < f i)
found n b f i e h =
    let z : b i && ltb 0 (f i) ≡ true = rw e at (lowest-found (λ x. b x && ltb 0 (f x)) n 0 (omega arith)) in
    (and_l (b i) (ltb 0 (f i)) z, ltb-true 0 (f i) (and_r (b i) (ltb 0 (f i)) z))

-- what i sends to j is a move
pub send : (n : ℕ) (b : ℕ → Bool) (s : PartialPlan) (i j : ℕ) → i < n → j < n → (b i ≡ true) × (0 < s.surplus i) → (b j ≡ true) × (0 < s.deficit j)
    → Move n b s (sends s i j (min (s.surplus i) (s.deficit j)))
send n b s i j li lj hi hj = record {
  i = i;
  j = j;
  i< = li;
  j< = lj;
  i_in = hi.0;
  j_in = hj.0;
  has = hi.1;
  lacks = hj.1;
  amount = min (s.surplus i) (s.deficit j);
  smaller = refl;
  sent = changed_more s.sent i j (min (s.surplus i) (s.deficit j));
  surplus = changed_less s.surplus i (min (s.surplus i) (s.deficit j)) (omega arith);
  deficit = changed_less s.deficit j (min (s.surplus i) (s.deficit j)) (omega arith);
}

-- a move is made, or one side is empty and nothing changes
pub move_or_empty : (n : ℕ) (b : ℕ → Bool) (s : PartialPlan) → Move n b s (moved n b s) ⊎ ((moved n b s ≡ s) × OneEmpty n b s)
unfolding moved
move_or_empty n b s =
    case (ltb (sender n b s) n)
    (λ e. case (ltb (receiver n b s) n)
    (λ f.
    let g : sender n b s < n = ltb-true (sender n b s) n e in
    let h : receiver n b s < n = ltb-true (receiver n b s) n f in
    rw (e, f) (inl (send n b s (sender n b s) (receiver n b s) g h (found n b s.surplus _ refl g) (found n b s.deficit _ refl h))))
    (λ f. rw (e, f) (inr (refl, inr (none_left n b s.deficit (ltb-false (receiver n b s) n f))))))
    (λ e. rw e (inr (refl, inl (none_left n b s.surplus (ltb-false (sender n b s) n e)))))

-- ---- rows and columns

-- what is sent and the residue make up the masses, and no vertex has a surplus and a deficit
pub record Balanced (n : ℕ) (mu nu : ℕ → ℕ) (s : PartialPlan) : Type 0 where
  pub rows : (i : ℕ) → i < n → sum n (λ j. s.sent i j) + s.surplus i ≡ mu i
  pub columns : (j : ℕ) → j < n → sum n (λ i. s.sent i j) + s.deficit j ≡ nu j
  pub apart : (x : ℕ) → x < n → min (s.surplus x) (s.deficit x) ≡ 0

pub balanced_started : (n : ℕ) (mu nu : ℕ → ℕ) → Balanced n mu nu (started mu nu)
balanced_started n mu nu = record {
  rows = λ i l. omega (arith, sum_only' n i (λ _. min (mu i) (nu i)) l);
  columns = λ j l. omega (arith, sum_only n j (λ i. min (mu i) (nu i)) l);
  apart = λ x l. omega arith;
}

module _ {n : ℕ} {b : ℕ → Bool} {s s' : PartialPlan} (m : Move n b s s') where
  row_more : (x : ℕ) → sum n (λ y. s'.sent x y) ≡ sum n (λ y. s.sent x y) + pick (eqb x m.i) m.amount
  row_more x =
      sum_ext n _ _ (λ y l. m.sent x y)
      ∙ sum-add n (λ y. s.sent x y) (λ y. pick (eqb x m.i) (pick (eqb y m.j) m.amount))
      ∙ ap (λ (k : ℕ). sum n (λ y. s.sent x y) + k) (sum-pick n (eqb x m.i) (λ y. pick (eqb y m.j) m.amount)
      ∙ ap (λ (k : ℕ). pick (eqb x m.i) k) (sum_only n m.j (λ _. m.amount) m.j<))

  column_more : (y : ℕ) → sum n (λ x. s'.sent x y) ≡ sum n (λ x. s.sent x y) + pick (eqb y m.j) m.amount
  column_more y =
      sum_ext n _ _ (λ x l. m.sent x y)
      ∙ sum-add n (λ x. s.sent x y) (λ x. pick (eqb x m.i) (pick (eqb y m.j) m.amount))
      ∙ ap (λ (k : ℕ). sum n (λ x. s.sent x y) + k) (sum_only n m.i (λ _. pick (eqb y m.j) m.amount) m.i<)

  pub balanced_move : (mu nu : ℕ → ℕ) → Balanced n mu nu s → Balanced n mu nu s'
  balanced_move mu nu h = record {
    rows = λ x l. omega (arith, row_more x, m.surplus x, h.rows x l);
    columns = λ y l. omega (arith, column_more y, m.deficit y, h.columns y l);
    apart = λ x l. omega (arith, m.surplus x, m.deficit x, h.apart x l);
  }

-- ---- n moves are enough

-- how many vertices have a surplus or a deficit
unfoldable pub unmatched : ℕ → PartialPlan → ℕ
unmatched n s = sum n (λ x. min 1 (s.surplus x) + min 1 (s.deficit x))

pub unmatched_le : (n : ℕ) (s : PartialPlan) → ((x : ℕ) → x < n → min (s.surplus x) (s.deficit x) ≡ 0) → unmatched n s ≤ n
unfolding unmatched
unmatched_le n s apart =
    omega (
      arith,
      sum_one n,
      sum-le n (λ x. min 1 (s.surplus x) + min 1 (s.deficit x)) (λ _. 1) (λ x l. omega (arith, apart x l)),
    )

-- each move empties a vertex
pub unmatched_falls : {n : ℕ} {b : ℕ → Bool} {s s' : PartialPlan} → Move n b s s' → unmatched n s' < unmatched n s
unfolding unmatched
unmatched_falls {n} {b} {s} {s'} m =
    case≤ (s.surplus m.i) (s.deficit m.j)
    (λ h. sum_lt n _ _ m.i m.i<
    (omega (arith, m.has, m.smaller, m.deficit m.i, rw (eqb_self m.i) at (m.surplus m.i))) less)
    (λ h. sum_lt n _ _ m.j m.j<
    (omega (arith, m.lacks, m.smaller, m.surplus m.j, rw (eqb_self m.j) at (m.deficit m.j))) less)
  where
    less : (x : ℕ) → x < n → min 1 (s'.surplus x) + min 1 (s'.deficit x) ≤ min 1 (s.surplus x) + min 1 (s.deficit x)
    less x l = omega (arith, m.surplus x, m.deficit x)

-- where all is empty, the set b is
unmatched_none : (n : ℕ) (b : ℕ → Bool) (s : PartialPlan) → unmatched n s ≤ 0 → OneEmpty n b s
unfolding unmatched
unmatched_none n b s h =
    inl (sum_zeros n _ (λ x l. omega (
      arith,
      pick-le (b x) (s.surplus x),
      sum_ge n x (λ x. min 1 (s.surplus x) + min 1 (s.deficit x)) l,
    )))

-- where a move changes nothing, no more of them do
matched_still : (n : ℕ) (b : ℕ → Bool) (s : PartialPlan) → moved n b s ≡ s → (k : ℕ) → matched n b k s ≡ s
unfolding matched
matched_still n b s e zero = refl
matched_still n b s e (suc k) = rw e (matched_still n b s e k)

-- what each move keeps, the moves of a vertex keep, and they empty one side
pub matched_keeps : (n : ℕ) (b : ℕ → Bool) (Q : PartialPlan → Type 0) → ((s s' : PartialPlan) → Q s → Move n b s s' → Q s')
    → (k : ℕ) (s : PartialPlan) → Q s → unmatched n s ≤ k → Q (matched n b k s) × OneEmpty n b (matched n b k s)
unfolding matched
matched_keeps n b Q step zero s q h = (q, unmatched_none n b s h)
matched_keeps n b Q step (suc k) s q h =
    ⊎_elim
    (λ m. matched_keeps n b Q step k (moved n b s) (step s (moved n b s) q m) (omega (arith, unmatched_falls m)))
    (λ z. rw (z.0, matched_still n b s z.0 k) (q, z.1))
    (move_or_empty n b s)

module _ (n : ℕ) (b : ℕ → Bool) where
  module _ (s : PartialPlan) (i j : ℕ) (ei : i ≡ sender n b s) (ej : j ≡ receiver n b s) (hi : i < n) (hj : j < n) where
    -- what the lowest two do
    pub lowest_move : Move n b s (sends s i j (min (s.surplus i) (s.deficit j)))
    lowest_move = send n b s i j hi hj (found n b s.surplus i (sym ei) hi) (found n b s.deficit j (sym ej) hj)

    pub moved-sends : moved n b s ≡ sends s i j (min (s.surplus i) (s.deficit j))
    unfolding moved
    moved-sends = rw (← ei, ← ej, lt-ltb i n hi, lt-ltb j n hj)

  -- a move does not change what enough moves lead to
  pub matched-moved : (k : ℕ) (s : PartialPlan) → unmatched n s ≤ k → matched n b k (moved n b s) ≡ matched n b k s
  unfolding matched
  matched-moved zero s l = ⊎_elim (λ m. absurd (omega (arith, unmatched_falls m))) (λ z. z.0) (move_or_empty n b s)
  matched-moved (suc k) s l =
      ⊎_elim
      (λ m. matched-moved k (moved n b s) (omega (arith, unmatched_falls m)))
      (λ z. ap (matched n b (suc k)) z.0)
      (move_or_empty n b s)

  -- where one side is empty, nothing moves
  pub matched_done : (k : ℕ) (s : PartialPlan) → (n ≤ sender n b s) ⊎ (n ≤ receiver n b s) → matched n b k s ≡ s
  unfolding moved
  matched_done k s h =
      matched_still n b s (⊎_elim (λ l. rw (le-ltb (sender n b s) n l)) (λ l. rw (le-ltb (receiver n b s) n l, and-false)) h) k
