-- The plan's rule depends on the values at the vertices below n alone.
use mathlib.Core.Path.{◌≡◌, refl, sym, ap, ◌∙◌}
use mathlib.Core.Bool.{Bool, true, false, cond, ◌&&◌}
use Prim.Native.Nat.{ℕ, zero, suc, ◌≤◌, ◌<◌, min}
use native.Mathlib.Omega.{arith}
use lib.Dec.{eqb, ltb}
use borrow.Author.Tests.{ltb-true}
use Rattle.arithmetic.proofs.Laws.Bools.{case, and_l, and_r}
use Rattle.vertex_set.proofs.Laws.Lowest.{lowest_ext}
use Rattle.rooted_tree.specs.Chain.{below, depth}
use Rattle.plan_rule.specs.Plan.{PartialPlan, started, sends, sender, receiver, moved, matched, layer, layers, plan}
use Rattle.plan_rule.specs.Steps.Taken.{taken, taken_by_depth}
use Rattle.plan_rule.specs.Steps.Agreement.{Agree}

pub agree_refl : {n : ℕ} {s : PartialPlan} → Agree n s s
agree_refl = record { sent = λ i j k l. refl; surplus = λ x l. refl; deficit = λ x l. refl }

pub agree_eq : {n : ℕ} {s t : PartialPlan} → s ≡ t → Agree n s t
agree_eq e = rw e agree_refl

pub agree_trans : {n : ℕ} {s t u : PartialPlan} → Agree n s t → Agree n t u → Agree n s u
agree_trans e f = record {
  sent = λ i j k l. e.sent i j k l ∙ f.sent i j k l;
  surplus = λ x l. e.surplus x l ∙ f.surplus x l;
  deficit = λ x l. e.deficit x l ∙ f.deficit x l;
}

-- ---- moves

-- the same move, if it is one
abbrev moving : ℕ → PartialPlan → ℕ → ℕ → PartialPlan
moving n s i j = cond (ltb i n && ltb j n) (sends s i j (min (s.surplus i) (s.deficit j))) s

sends_agree : (n i j : ℕ) {v w : ℕ} {s t : PartialPlan} → i < n → j < n → v ≡ w → Agree n s t → Agree n (sends s i j v) (sends t i j w)
sends_agree n i j hi hj e a = record {
  sent = λ x y hx hy. case (eqb x i) (λ f. rw (f, a.sent i j hi hj, a.sent i y hi hy, e)) (λ f. rw (f, a.sent x y hx hy));
  surplus = λ x h. rw (a.surplus i hi, a.surplus x h, e);
  deficit = λ x h. rw (a.deficit j hj, a.deficit x h, e);
}

moving_agree : (n i j : ℕ) {s t : PartialPlan} → Agree n s t → Agree n (moving n s i j) (moving n t i j)
moving_agree n i j a =
    case (ltb i n && ltb j n)
    (λ e.
    let hi = ltb-true i n (and_l (ltb i n) (ltb j n) e) in
    let hj = ltb-true j n (and_r (ltb i n) (ltb j n) e) in
    rw e (sends_agree n i j hi hj (rw (a.surplus i hi, a.deficit j hj)) a))
    (λ e. rw e a)

module _ {n : ℕ} {b c : ℕ → Bool} (sets : (x : ℕ) → x < n → b x ≡ c x) where
  moved_agree : {s t : PartialPlan} → Agree n s t → Agree n (moved n b s) (moved n c t)
  unfolding moved
  moved_agree {s} {t} a =
      let i : sender n b s ≡ sender n c t
      = lowest_ext _ _ n 0 (λ x l. rw (sets x (omega arith), a.surplus x (omega arith))) in
      let j : receiver n b s ≡ receiver n c t
      = lowest_ext _ _ n 0 (λ x l. rw (sets x (omega arith), a.deficit x (omega arith))) in
      rw (i, j) (moving_agree n (sender n c t) (receiver n c t) a)

  pub matched_agree : (k : ℕ) {s t : PartialPlan} → Agree n s t → Agree n (matched n b k s) (matched n c k t)
  unfolding matched
  matched_agree zero a = a
  matched_agree (suc k) a = matched_agree k (moved_agree a)

-- ---- the vertices in turn
cond_agree : {n : ℕ} {s s' t t' : PartialPlan} (b : Bool) → Agree n s t → Agree n s' t' → Agree n (cond b s s') (cond b t t')
cond_agree true a a' = a
cond_agree false a a' = a'

module _ {n : ℕ} {b c : ℕ → ℕ → Bool} (sets : (x y : ℕ) → x < n → y < n → b x y ≡ c x y) where
  pub taken_agree : {f g : ℕ → Bool} → ((x : ℕ) → x < n → f x ≡ g x) → (k : ℕ) {s t : PartialPlan} → k ≤ n
      → Agree n s t → Agree n (taken n f b k s) (taken n g c k t)
  unfolding taken
  taken_agree h zero l a = a
  taken_agree {f} {g} h (suc k) l a =
      let z = taken_agree h k (omega arith) a in
      rw (h k (omega arith)) (cond_agree (g k) (matched_agree (λ y m. sets k y (omega arith) m) n z) z)

  pub taken_by_depth_agree : {h k : ℕ → ℕ} → ((x : ℕ) → x < n → h x ≡ k x) → (d : ℕ) {s t : PartialPlan}
      → Agree n s t → Agree n (taken_by_depth n h b d s) (taken_by_depth n k c d t)
  unfolding taken_by_depth
  taken_by_depth_agree e zero a = a
  taken_by_depth_agree e (suc d) a = taken_by_depth_agree e d (taken_agree (λ x l. ap (λ (y : ℕ). eqb y d) (e x l)) n (omega arith) a)

-- ---- a tree
module _ (n r : ℕ) (p : ℕ → ℕ) where
  layer-taken : (d k : ℕ) (s : PartialPlan) → layer n r p d k s ≡ taken n (λ x. eqb (depth p r n x) d) (λ x y. below p n y x) k s
  unfolding layer taken
  layer-taken d zero s = refl
  layer-taken d (suc k) s = rw (layer-taken d k s)

  layers-taken : (d : ℕ) (s : PartialPlan) → layers n r p d s ≡ taken_by_depth n (depth p r n) (λ x y. below p n y x) d s
  unfolding layers taken_by_depth
  layers-taken zero s = refl
  layers-taken (suc d) s = rw (layer-taken d n s) (layers-taken d _)

started_agree : {n : ℕ} {mu mu' nu nu' : ℕ → ℕ} → ((x : ℕ) → x < n → mu x ≡ mu' x) → ((x : ℕ) → x < n → nu x ≡ nu' x)
    → Agree n (started mu nu) (started mu' nu')
started_agree e f = record {
  sent = λ i j h _. rw (e i h, f i h);
  surplus = λ x l. rw (e x l, f x l);
  deficit = λ x l. rw (e x l, f x l);
}

-- by any depths and subtrees that are the tree's
pub layers_agree : (n r : ℕ) (p : ℕ → ℕ) {h : ℕ → ℕ} {b : ℕ → ℕ → Bool} {s t : PartialPlan}
    → ((x : ℕ) → x < n → depth p r n x ≡ h x) → ((x y : ℕ) → x < n → y < n → below p n y x ≡ b x y) → Agree n s t
    → Agree n (layers n r p n s) (taken_by_depth n h b n t)
layers_agree n r p depths sets same = agree_trans (agree_eq (layers-taken n r p n _)) (taken_by_depth_agree sets depths n same)

pub plan_same : (n r : ℕ) (p q mu mu' nu nu' : ℕ → ℕ) → ((x : ℕ) → x < n → depth p r n x ≡ depth q r n x)
    → ((x y : ℕ) → x < n → y < n → below p n y x ≡ below q n y x) → ((x : ℕ) → x < n → mu x ≡ mu' x) → ((x : ℕ) → x < n → nu x ≡ nu' x)
    → (i j : ℕ) → i < n → j < n → plan n r p mu nu i j ≡ plan n r q mu' nu' i j
unfolding plan
plan_same n r p q mu mu' nu nu' depths sets before after =
    (agree_trans (layers_agree n r p depths sets (started_agree before after)) (agree_eq (sym (layers-taken n r q n _)))).sent
