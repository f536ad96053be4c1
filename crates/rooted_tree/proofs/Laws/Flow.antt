-- The cost of the flow on a tree, and potentials: weak and strong duality.
use mathlib.Core.Path.{◌≡◌, refl, sym, ap, ◌∙◌}
use mathlib.Core.Bool.{Bool, true, false, not}
use mathlib.Core.Logic.{inl, inr, ⊎_elim}
use Prim.Native.Nat.{ℕ, ◌+◌, ◌*◌, ◌≤◌, ◌<◌}
use native.Mathlib.Nat.{mul-le-mul_right}
use native.Mathlib.Omega.{arith}
use lib.Dec.{eqb, leb}
use borrow.Author.Tests.{ne_eqb, le-leb, lt-leb, leb-true, leb-false, not-true}
use Rattle.arithmetic.specs.Sum.{pick, sum}
use Rattle.arithmetic.specs.Steps.Product.{gap, Tight, Agrees}
use Rattle.arithmetic.proofs.Laws.Bools.{case≡, case≤, eqb_self}
use Rattle.arithmetic.proofs.Laws.Sum.{pick-zero, sum_ext, sum-le, sum_lt, sum_equal, sum-add}
use Rattle.arithmetic.proofs.Laws.Product.{gap_comm, product_le, product_tight, tight_product, agrees_tight}
use Rattle.rooted_tree.specs.Chain.{below}
use Rattle.rooted_tree.specs.Steps.Rooted.{Rooted}
use Rattle.rooted_tree.specs.Steps.Subtotal.{subtotal, inner}
use Rattle.rooted_tree.specs.Steps.Potential.{lengths_where}
use Rattle.rooted_tree.specs.Steps.Flow.{flow_cost}
use Rattle.rooted_tree.proofs.Laws.Rooted.{tree_ind}
use Rattle.rooted_tree.proofs.Laws.Subtotal.{subtotal_root, by_parts}
use Rattle.rooted_tree.proofs.Laws.Potential.{lengths_le, tree_potential, potential_root, potential_up, potential_down}

-- it does not matter which mass is moved to which
pub flow_swap : (n r : ℕ) (p l m v : ℕ → ℕ) → flow_cost n r p l m v ≡ flow_cost n r p l v m
unfolding flow_cost
flow_swap n r p l m v =
    sum_ext n _ _ (λ x h. ap (λ (g : ℕ). inner r x (l x * g)) (gap_comm (subtotal p n m x) (subtotal p n v x)))

-- a longer edge that has a flow costs more
pub flow_longer : (n r : ℕ) (p l k m v : ℕ → ℕ) → ((x : ℕ) → x < n → (x ≡ r → ⊥) → l x ≤ k x)
    → (a : ℕ) → a < n → (a ≡ r → ⊥) → l a < k a → subtotal p n v a < subtotal p n m a → flow_cost n r p l m v < flow_cost n r p k m v
unfolding flow_cost
flow_longer n r p l k m v h a la d s f =
    sum_lt n _ _ a la
    (rw (ne_eqb a r d) (longer (l a) (k a) (subtotal p n m a) (subtotal p n v a) s f))
    (λ x lx. case≡ x r
    (λ e. rw (e, eqb_self r) (omega arith))
    (λ e. rw (ne_eqb x r e) (mul-le-mul_right (gap (subtotal p n m x) (subtotal p n v x)) (h x lx e))))
  where
    longer : (i j u w : ℕ) → i < j → w < u → i * gap u w < j * gap u w
    longer i j u w lt ne = omega (arith, mul-le-mul_right (gap u w) lt)

module _ {n r : ℕ} {p : ℕ → ℕ} (t : Rooted n r p) (U l m v : ℕ → ℕ) (same : sum n m ≡ sum n v) where
  A : ℕ → ℕ
  A x = subtotal p n m x

  B : ℕ → ℕ
  B x = subtotal p n v x

  -- the two sides at one vertex
  left : ℕ → ℕ
  left x = U x * A x + inner r x (U (p x) * B x)

  right : ℕ → ℕ
  right x = inner r x (U (p x) * A x) + U x * B x + inner r x (l x * gap (A x) (B x))

  -- at the root they are equal
  root_sides : left r ≡ right r
  unfolding left right A B
  root_sides =
      rw (eqb_self r)
      (omega (arith, ap (λ (z : ℕ). U r * z) (subtotal_root t m ∙ same ∙ sym (subtotal_root t v))))

  left_sum : sum n left ≡ sum n (λ x. U x * A x) + sum n (λ x. inner r x (U (p x) * B x))
  unfolding left
  left_sum = sum-add n (λ x. U x * A x) (λ x. inner r x (U (p x) * B x))

  right_sum : sum n right ≡ sum n (λ x. inner r x (U (p x) * A x)) + sum n (λ x. U x * B x) + flow_cost n r p l m v
  unfolding right flow_cost A B
  right_sum =
      omega (
        arith,
        sum-add n (λ x. inner r x (U (p x) * A x) + U x * B x) (λ x. inner r x (l x * gap (A x) (B x))),
        sum-add n (λ x. inner r x (U (p x) * A x)) (λ x. U x * B x),
      )

  m_parts : sum n (λ x. U x * A x) ≡ sum n (λ x. inner r x (U (p x) * A x)) + sum n (λ y. U y * m y)
  unfolding A
  m_parts = by_parts t U m

  v_parts : sum n (λ x. U x * B x) ≡ sum n (λ x. inner r x (U (p x) * B x)) + sum n (λ y. U y * v y)
  unfolding B
  v_parts = by_parts t U v

  -- the potential is within the lengths
  abbrev Near : Type 0
  Near = (x : ℕ) → x < n → (x ≡ r → ⊥) → (U x ≤ U (p x) + l x) × (U (p x) ≤ U x + l x)

  left_le_right : Near → (x : ℕ) → x < n → left x ≤ right x
  unfolding left right
  left_le_right near x h =
      case≡ x r
      (λ e. rw e (omega (arith, root_sides)))
      (λ d. rw (ne_eqb x r d) (product_le (U x) (U (p x)) (l x) (A x) (B x) (near x h d).0 (near x h d).1))

  -- weak duality: a potential within the lengths
  pub tree_weak : Near → sum n (λ y. U y * m y) ≤ sum n (λ y. U y * v y) + flow_cost n r p l m v
  tree_weak near = omega (arith, left_sum, right_sum, m_parts, v_parts, sum-le n left right (left_le_right near))

  -- strong duality: a potential that is tight where there is a flow, free where there is none
  pub tree_tight : ((x : ℕ) → x < n → (x ≡ r → ⊥) → Tight (U x) (U (p x)) (l x) (subtotal p n m x) (subtotal p n v x))
      → sum n (λ y. U y * m y) ≡ sum n (λ y. U y * v y) + flow_cost n r p l m v
  unfolding left right A B
  tree_tight tight = omega (arith, left_sum, right_sum, m_parts, v_parts, sum_ext n left right at)
    where
      at : (x : ℕ) → x < n → left x ≡ right x
      at x h =
          case≡ x r
          (λ e. rw e root_sides)
          (λ d. rw (ne_eqb x r d) (product_tight (U x) (U (p x)) (l x) (A x) (B x) (tight x h d)))

  pub tree_strong : ((x : ℕ) → x < n → (x ≡ r → ⊥) → Agrees (U x) (U (p x)) (l x) (subtotal p n m x) (subtotal p n v x))
      → sum n (λ y. U y * m y) ≡ sum n (λ y. U y * v y) + flow_cost n r p l m v
  tree_strong agrees = tree_tight (λ x h d. agrees_tight (U x) (U (p x)) (l x) _ _ (agrees x h d))

  -- and only such a one: within the lengths, and of the tree's cost, it is tight where there is a flow
  pub tight_tree : Near → sum n (λ y. U y * m y) ≡ sum n (λ y. U y * v y) + flow_cost n r p l m v
      → (x : ℕ) → x < n → (x ≡ r → ⊥) → Tight (U x) (U (p x)) (l x) (subtotal p n m x) (subtotal p n v x)
  unfolding left right A B
  tight_tree near e x h d =
      tight_product (U x) (U (p x)) (l x) (A x) (B x)
      (let z = sum_equal n left right (left_le_right near) (omega (arith, left_sum, right_sum, m_parts, v_parts, e)) x h in rw (ne_eqb x r d) at z)

-- ---- every tree has a potential that agrees with its flow; it is not the document's, which is flat where nothing flows

-- an edge that the flow climbs, or that has none, raises the potential
abbrev climbs : (n : ℕ) (p m v : ℕ → ℕ) → ℕ → Bool
climbs n p m v x = leb (subtotal p n v x) (subtotal p n m x)

abbrev descends : (n : ℕ) (p m v : ℕ → ℕ) → ℕ → Bool
descends n p m v x = not (climbs n p m v x)

-- at the root the sum of all lengths, so that nothing falls below 0
unfoldable pub height : (n r : ℕ) (p l m v : ℕ → ℕ) → ℕ → ℕ
height n r p l m v = tree_potential n r p l (climbs n p m v) (descends n p m v) (sum n l)

module _ {n r : ℕ} {p : ℕ → ℕ} (t : Rooted n r p) (l m v : ℕ → ℕ) where
  pub height_root : height n r p l m v r ≡ sum n l
  unfolding height
  height_root = potential_root t l (climbs n p m v) (descends n p m v) (sum n l)

  pub height_up : (x : ℕ) → x < n → (x ≡ r → ⊥) → subtotal p n v x ≤ subtotal p n m x
      → height n r p l m v x ≡ height n r p l m v (p x) + l x
  unfolding height
  height_up x k d h =
      let e : climbs n p m v x ≡ true = le-leb (subtotal p n v x) (subtotal p n m x) h in
      potential_up t l (climbs n p m v) (descends n p m v) (sum n l) x k d (lengths_le n r p l (descends n p m v)) e (ap not e)

  pub height_down : (x : ℕ) → x < n → (x ≡ r → ⊥) → subtotal p n m x < subtotal p n v x
      → height n r p l m v (p x) ≡ height n r p l m v x + l x
  unfolding height
  height_down x k d h =
      let e : climbs n p m v x ≡ false = lt-leb (subtotal p n v x) (subtotal p n m x) h in
      potential_down t l (climbs n p m v) (descends n p m v) (sum n l) x k d (lengths_le n r p l (descends n p m v)) e (ap not e)

  pub height_agrees : (x : ℕ) → x < n → (x ≡ r → ⊥)
      → Agrees (height n r p l m v x) (height n r p l m v (p x)) (l x) (subtotal p n m x) (subtotal p n v x)
  height_agrees x k d =
      case≤ (subtotal p n v x) (subtotal p n m x)
      (λ h. inl (h, height_up x k d h))
      (λ h. inr (omega arith, height_down x k d h))

  -- where no subtree is balanced it is the only one, up to its value at the root
  pub height_unique : (U : ℕ → ℕ) → ((x : ℕ) → x < n → (x ≡ r → ⊥) → subtotal p n m x ≡ subtotal p n v x → ⊥)
      → ((x : ℕ) → x < n → (x ≡ r → ⊥) → Agrees (U x) (U (p x)) (l x) (subtotal p n m x) (subtotal p n v x))
      → (y : ℕ) → y < n → U y + sum n l ≡ U r + height n r p l m v y
  height_unique U nonzero agrees =
      tree_ind t (λ y. U y + sum n l ≡ U r + height n r p l m v y)
      (omega (arith, height_root))
      (λ y k d h. ⊎_elim
      (λ e. omega (arith, height_up y k d e.0))
      (λ e. let ne = nonzero y k d in omega (arith, height_down y k d (omega arith)))
      (agrees y k d))

  -- y is no higher than z where each edge that rises to y rises to z, and each that falls to z falls to y
  pub height_mono : (y z : ℕ)
      → ((x : ℕ) → x < n → (x ≡ r → ⊥) → below p n y x ≡ true → subtotal p n v x ≤ subtotal p n m x → below p n z x ≡ true)
      → ((x : ℕ) → x < n → (x ≡ r → ⊥) → below p n z x ≡ true → subtotal p n m x < subtotal p n v x → below p n y x ≡ true)
      → height n r p l m v y ≤ height n r p l m v z
  unfolding height tree_potential
  height_mono y z up down =
      omega (
        arith,
        within y z (climbs n p m v) (λ x k d e h. up x k d e (leb-true _ _ h)),
        within z y (descends n p m v) (λ x k d e h. down x k d e (leb-false _ _ (not-true (climbs n p m v x) h))),
      )
    where
      within : (y z : ℕ) (test : ℕ → Bool)
          → ((x : ℕ) → x < n → (x ≡ r → ⊥) → below p n y x ≡ true → test x ≡ true → below p n z x ≡ true)
          → lengths_where n r p l test y ≤ lengths_where n r p l test z
      within y z test h = sum-le n _ _ (λ x k. either x (below p n y x) (below p n z x) (test x) (h x k))
        where
          either : (x : ℕ) (b c e : Bool) → ((x ≡ r → ⊥) → b ≡ true → e ≡ true → c ≡ true)
              → pick b (inner r x (pick e (l x))) ≤ pick c (inner r x (pick e (l x)))
          either x false c e f = omega arith
          either x true c false f = rw (pick-zero (not (eqb x r))) (omega arith)
          either x true c true f =
              case≡ x r (λ q. rw (q, eqb_self r) (omega arith)) (λ d. rw (f d refl refl) (omega arith))

-- who agrees is within the length
pub agrees_near : (u w d a b : ℕ) → Agrees u w d a b → (u ≤ w + d) × (w ≤ u + d)
agrees_near u w d a b = ⊎_elim (λ h. (omega arith, omega arith)) (λ h. (omega arith, omega arith))
