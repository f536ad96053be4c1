-- The plan by the document's rule: its rows and columns are the masses, and each entry goes with the imbalance.
use Prim.Native.Nat.{ℕ, zero, suc, ◌+◌, ◌-◌, ◌≤◌, ◌<◌}
use mathlib.Core.Path.{◌≡◌, sym, ap, ◌∙◌}
use mathlib.Core.Bool.{Bool, true, false}
use mathlib.Core.Logic.{⊎_elim}
use native.Mathlib.Omega.{arith}
use lib.Dec.{eqb}
use borrow.Author.Tests.{ne_eqb}
use Rattle.arithmetic.specs.Sum.{pick, sum}
use Rattle.arithmetic.proofs.Laws.Bools.{case, case≡, case<, clash, is_false, is_true, both, eqb_self}
use Rattle.arithmetic.proofs.Laws.Sum.{pick-zero, sum_ext, sum-add, sum_only, sum_ge}
use Rattle.rooted_tree.specs.Chain.{below, depth}
use Rattle.rooted_tree.specs.Steps.Rooted.{Rooted}
use Rattle.rooted_tree.specs.Steps.Subtotal.{subtotal}
use Rattle.rooted_tree.proofs.Laws.Rooted.{trans_b, comparable, all-b, depth_strict, depth-lt}
use Rattle.rooted_tree.proofs.Laws.Subtotal.{subtotal_root}
use Rattle.plan_rule.specs.Plan.{PartialPlan, started, matched, layer, layers, plan}
use Rattle.plan_rule.proofs.Laws.Matching.{Move, OneEmpty, Balanced, balanced_started, balanced_move, unmatched_le, matched_keeps}

-- the way from i to j climbs only edges with a positive imbalance and descends only edges with a negative one
pub record Climbs (n : ℕ) (p mu nu : ℕ → ℕ) (i j : ℕ) : Type 0 where
  pub up : (x : ℕ) → x < n → below p n i x ≡ true → below p n j x ≡ false → subtotal p n nu x < subtotal p n mu x
  pub down : (x : ℕ) → x < n → below p n j x ≡ true → below p n i x ≡ false → subtotal p n mu x < subtotal p n nu x

-- x is taken, or still open, when all deeper than d and those of depth d below k are taken
abbrev Taken : ℕ → ℕ → (ℕ → ℕ) → ℕ → ℕ → ℕ → Type 0
Taken n r p d k x = (d ≤ depth p r n x) × (depth p r n x ≡ d → x < k)

abbrev Open : ℕ → ℕ → (ℕ → ℕ) → ℕ → ℕ → ℕ → Type 0
Open n r p d k x = (depth p r n x ≤ d) × (depth p r n x ≡ d → k ≤ x)

-- what holds of the run then: the residues below an open vertex have its imbalance; those below a taken one have its sign
record Invariant (n r : ℕ) (p mu nu : ℕ → ℕ) (d k : ℕ) (s : PartialPlan) : Type 0 where
  balanced : Balanced n mu nu s
  climbs : (i j : ℕ) → i < n → j < n → 0 < s.sent i j → Climbs n p mu nu i j
  balance : (x : ℕ) → x < n → Open n r p d k x
      → subtotal p n s.surplus x + subtotal p n nu x ≡ subtotal p n s.deficit x + subtotal p n mu x
  rises : (x : ℕ) → x < n → Taken n r p d k x → 0 < subtotal p n s.surplus x → subtotal p n nu x < subtotal p n mu x
  falls : (x : ℕ) → x < n → Taken n r p d k x → 0 < subtotal p n s.deficit x → subtotal p n mu x < subtotal p n nu x

-- ---- subtotals of residues

-- v less at i
subtotal_less : (n : ℕ) (p m m' : ℕ → ℕ) (i v : ℕ) → i < n → ((y : ℕ) → m' y + pick (eqb y i) v ≡ m y)
    → (x : ℕ) → subtotal p n m' x + pick (below p n i x) v ≡ subtotal p n m x
unfolding subtotal
subtotal_less n p m m' i v l h x =
    omega (
      arith,
      sum_only n i (λ y. pick (below p n y x) v) l,
      sum-add n (λ y. pick (below p n y x) (m' y)) (λ y. pick (eqb y i) (pick (below p n y x) v)),
      sum_ext n (λ y. pick (below p n y x) (m' y) + pick (eqb y i) (pick (below p n y x) v)) (λ y. pick (below p n y x) (m y))
          (λ y k. case (below p n y x) (λ e. rw e (h y)) (λ e. rw (e, pick-zero))),
    )

-- a subtotal is at least the mass of each vertex in it
subtotal_ge : (n : ℕ) (p m : ℕ → ℕ) (i x : ℕ) → i < n → below p n i x ≡ true → m i ≤ subtotal p n m x
unfolding subtotal
subtotal_ge n p m i x l e =
    omega (arith, sum_ge n i (λ y. pick (below p n y x) (m y)) l, ap (λ (b : Bool). pick b (m i)) e)

subtotal_balance : (n : ℕ) (p a b c e : ℕ → ℕ) → ((y : ℕ) → a y + b y ≡ c y + e y)
    → (x : ℕ) → subtotal p n a x + subtotal p n b x ≡ subtotal p n c x + subtotal p n e x
unfolding subtotal
subtotal_balance n p a b c e h x =
    omega (
      arith,
      sum-add n (λ y. pick (below p n y x) (a y)) (λ y. pick (below p n y x) (b y)),
      sum-add n (λ y. pick (below p n y x) (c y)) (λ y. pick (below p n y x) (e y)),
      sum_ext n (λ y. pick (below p n y x) (a y) + pick (below p n y x) (b y))
          (λ y. pick (below p n y x) (c y) + pick (below p n y x) (e y))
          (λ y l. case (below p n y x) (λ q. rw q (h y)) (λ q. rw q)),
    )

module _ {n r : ℕ} {p : ℕ → ℕ} (t : Rooted n r p) (mu nu : ℕ → ℕ) where
  -- ---- the start
  invariant_started : Invariant n r p mu nu n n (started mu nu)
  invariant_started = record {
    balanced = balanced_started n mu nu;
    climbs = λ i j li lj h. case≡ i j
        (λ e. rw e (record { up = λ x l f g. clash f g; down = λ x l f g. clash f g }))
        (λ d. let z : 0 < 0 = rw (ne_eqb i j d) at h in absurd (omega arith));
    balance = λ x l o. subtotal_balance n p (λ y. mu y - nu y) nu (λ y. nu y - mu y) mu (λ y. omega arith) x;
    rises = λ x l a. absurd (omega (arith, depth-lt t x l));
    falls = λ x l a. absurd (omega (arith, depth-lt t x l));
  }

  -- ---- a move at w, when the vertices of its depth below w are taken
  module _ (w : ℕ) {s s' : PartialPlan} (h : Invariant n r p mu nu (depth p r n w) w s) (m : Move n (λ y. below p n y w) s s') where
    -- a vertex that has one end below it, and the other not, is taken
    crossed : (i j x : ℕ) → i < n → j < n → x < n → below p n i w ≡ true → below p n j w ≡ true
        → below p n i x ≡ true → below p n j x ≡ false → Taken n r p (depth p r n w) w x
    crossed i j x li lj lx iw jw ix jx =
        let o : below p n w x ≡ false = is_false _ (λ e. clash (trans_b t w x j lj jw e) jx) in
        let a : depth p r n w < depth p r n x =
        depth_strict t w x lx (comparable t w x i li iw ix o) (λ e. clash (rw (← e) at jw) jx) in
        (omega arith, λ e. absurd (omega arith))

    apart : (x : ℕ) → Taken n r p (depth p r n w) w x → Open n r p (depth p r n w) w x → ⊥
    apart x a o = let e : depth p r n x ≡ depth p r n w = omega arith in omega (arith, a.1 e, o.1 e)

    new_climbs : Climbs n p mu nu m.i m.j
    new_climbs = record {
      up = λ x l f g. h.rises x l (crossed m.i m.j x m.i< m.j< l m.i_in m.j_in f g)
          (omega (arith, m.has, subtotal_ge n p s.surplus m.i x m.i< f));
      down = λ x l f g. h.falls x l (crossed m.j m.i x m.j< m.i< l m.j_in m.i_in f g)
          (omega (arith, m.lacks, subtotal_ge n p s.deficit m.j x m.j< f));
    }

    -- both ends are below an open vertex, or none
    same_side : (x : ℕ) → x < n → Open n r p (depth p r n w) w x → below p n m.i x ≡ below p n m.j x
    same_side x l o =
        both _ _
        (λ f. is_true _ (λ g. apart x (crossed m.i m.j x m.i< m.j< l m.i_in m.j_in f g) o))
        (λ f. is_true _ (λ g. apart x (crossed m.j m.i x m.j< m.i< l m.j_in m.i_in f g) o))

    surplus_less : (x : ℕ) → subtotal p n s'.surplus x + pick (below p n m.i x) m.amount ≡ subtotal p n s.surplus x
    surplus_less = subtotal_less n p s.surplus s'.surplus m.i m.amount m.i< m.surplus

    deficit_less : (x : ℕ) → subtotal p n s'.deficit x + pick (below p n m.j x) m.amount ≡ subtotal p n s.deficit x
    deficit_less = subtotal_less n p s.deficit s'.deficit m.j m.amount m.j< m.deficit

    invariant_move : Invariant n r p mu nu (depth p r n w) w s'
    invariant_move = record {
      balanced = balanced_move m mu nu h.balanced;
      climbs = λ i j li lj g. case≡ i m.i
          (λ e. case≡ j m.j
          (λ f. rw (e, f) new_climbs)
          (λ f. h.climbs i j li lj (omega (arith, rw (ne_eqb j m.j f, pick-zero) at (m.sent i j)))))
          (λ e. h.climbs i j li lj (omega (arith, rw (ne_eqb i m.i e) at (m.sent i j))));
      balance = λ x l o. omega (
        arith,
        surplus_less x,
        deficit_less x,
        ap (λ (b : Bool). pick b m.amount) (same_side x l o),
        h.balance x l o,
      );
      rises = λ x l a g. h.rises x l a (omega (arith, surplus_less x));
      falls = λ x l a g. h.falls x l a (omega (arith, deficit_less x));
    }

  -- ---- the vertices in turn

  -- with one side empty the residues below k have its sign
  invariant_taken : (k : ℕ) {s : PartialPlan} → k < n → Invariant n r p mu nu (depth p r n k) k s → OneEmpty n (λ y. below p n y k) s
      → Invariant n r p mu nu (depth p r n k) (suc k) s
  unfolding subtotal
  invariant_taken k {s} l h empty = record {
    balanced = h.balanced;
    climbs = h.climbs;
    balance = λ x lx o. h.balance x lx (o.0, λ e. omega (arith, o.1 e));
    rises = λ x lx a g. case≡ x k
        (λ e. rw e (⊎_elim (λ z. absurd (omega (arith, z, rw e at g))) (λ z. omega (arith, z, at-k, rw e at g)) empty))
        (λ d. h.rises x lx (a.0, λ e. omega (arith, a.1 e)) g);
    falls = λ x lx a g. case≡ x k
        (λ e. rw e (⊎_elim (λ z. omega (arith, z, at-k, rw e at g)) (λ z. absurd (omega (arith, z, rw e at g))) empty))
        (λ d. h.falls x lx (a.0, λ e. omega (arith, a.1 e)) g);
  }
    where
      at-k : subtotal p n s.surplus k + subtotal p n nu k ≡ subtotal p n s.deficit k + subtotal p n mu k
      at-k = h.balance k l (omega arith, λ _. omega arith)

  invariant_matched : (d k : ℕ) (s : PartialPlan) → depth p r n k ≡ d → k < n → Invariant n r p mu nu d k s
      → Invariant n r p mu nu d (suc k) (matched n (λ y. below p n y k) n s)
  invariant_matched d k s e l h =
      let g : Invariant n r p mu nu (depth p r n k) k s = rw e h in
      let z =
      matched_keeps n (λ y. below p n y k) (Invariant n r p mu nu (depth p r n k) k) (λ s s' q m. invariant_move k q m) n s g
      (unmatched_le n s g.balanced.apart) in
      rw (← e) (invariant_taken k l z.0 z.1)

  -- the same vertices are taken
  invariant_same : {d k e m : ℕ} {s : PartialPlan} → ((x : ℕ) → x < n → Taken n r p e m x → Taken n r p d k x)
      → ((x : ℕ) → x < n → Open n r p e m x → Open n r p d k x) → Invariant n r p mu nu d k s → Invariant n r p mu nu e m s
  invariant_same f g h = record {
    balanced = h.balanced;
    climbs = h.climbs;
    balance = λ x l o. h.balance x l (g x l o);
    rises = λ x l a. h.rises x l (f x l a);
    falls = λ x l a. h.falls x l (f x l a);
  }

  invariant_layer : (d k : ℕ) (s : PartialPlan) → k ≤ n → Invariant n r p mu nu d 0 s → Invariant n r p mu nu d k (layer n r p d k s)
  unfolding layer
  invariant_layer d zero s l h = h
  invariant_layer d (suc k) s l h =
      let ih : Invariant n r p mu nu d k (layer n r p d k s) = invariant_layer d k s (omega arith) h in
      case≡ (depth p r n k) d
      (λ e. rw (e, eqb_self d) (invariant_matched d k (layer n r p d k s) e (omega arith) ih))
      (λ e. rw (ne_eqb (depth p r n k) d e)
      (invariant_same
      (λ x lx a. (a.0, λ q. case≡ x k (λ f. absurd (e (rw f at q))) (λ f. omega (arith, a.1 q))))
      (λ x lx o. (o.0, λ q. omega (arith, o.1 q)))
      ih))

  invariant_layers : (d : ℕ) (s : PartialPlan) → Invariant n r p mu nu d n s → Invariant n r p mu nu 0 n (layers n r p d s)
  unfolding layers
  invariant_layers zero s h = h
  invariant_layers (suc d) s h =
      invariant_layers d (layer n r p d n s) (invariant_layer d n s (omega arith)
      (invariant_same
      (λ x l a. (case≡ (depth p r n x) d (λ e. absurd (omega (arith, a.1 e))) (λ e. omega arith), λ _. l))
      (λ x l o. (omega arith, λ e. absurd (omega arith)))
      h))

  -- ---- the end
  invariant_plan : Invariant n r p mu nu 0 n (layers n r p n (started mu nu))
  invariant_plan = invariant_layers n (started mu nu) invariant_started

  -- what each positive entry climbs and descends
  pub plan_climbs : (i j : ℕ) → i < n → j < n → 0 < plan n r p mu nu i j → Climbs n p mu nu i j
  unfolding plan
  plan_climbs = invariant_plan.climbs

  module _ (same : sum n mu ≡ sum n nu) where
    same_root : subtotal p n mu r ≡ subtotal p n nu r
    same_root = subtotal_root t mu ∙ same ∙ sym (subtotal_root t nu)

    taken_root : Taken n r p 0 n r
    taken_root = (omega arith, λ _. t.root)

    -- where nothing is below the root, no vertex has anything
    empty : (f : ℕ → ℕ) → (0 < subtotal p n f r → ⊥) → (x : ℕ) → x < n → f x ≡ 0
    empty f h x l =
        case< 0 (f x) (λ g. absurd (h (omega (arith, subtotal_ge n p f x r l (all-b t x l))))) (λ g. omega arith)

    pub plan-rows : (i : ℕ) → i < n → sum n (λ j. plan n r p mu nu i j) ≡ mu i
    unfolding plan
    plan-rows i l =
        omega (
          arith,
          invariant_plan.balanced.rows i l,
          empty (layers n r p n (started mu nu)).surplus
              (λ h. omega (arith, same_root, invariant_plan.rises r t.root taken_root h)) i l,
        )

    pub plan_columns : (j : ℕ) → j < n → sum n (λ i. plan n r p mu nu i j) ≡ nu j
    unfolding plan
    plan_columns j l =
        omega (
          arith,
          invariant_plan.balanced.columns j l,
          empty (layers n r p n (started mu nu)).deficit
              (λ h. omega (arith, same_root, invariant_plan.falls r t.root taken_root h)) j l,
        )
