-- The potential of a tree: the offset at the root, and along each edge a change by its length.
use mathlib.Core.Path.{◌≡◌, refl, ap, ◌∙◌}
use mathlib.Core.Bool.{Bool, true, false, not}
use mathlib.Core.List.{List}
use mathlib.Core.Logic.{inl, inr}
use Prim.Native.Nat.{ℕ, ◌+◌, ◌-◌, ◌^◌, ◌≤◌, ◌<◌}
use native.Mathlib.Omega.{arith}
use lib.Dec.{ltb}
use borrow.Author.Tests.{eq-eqb, ne_eqb, lt-ltb, le-ltb}
use Rattle.arithmetic.specs.Sum.{pick, sum}
use Rattle.arithmetic.specs.Table.{at}
use Rattle.arithmetic.specs.Steps.Fill.{Filled}
use Rattle.arithmetic.proofs.Laws.Bools.{case≡, case<}
use Rattle.arithmetic.proofs.Laws.Sum.{pick-le, sum-le-mul}
use Rattle.rooted_tree.specs.Chain.{below, depth}
use Rattle.rooted_tree.specs.Steps.Rooted.{Rooted, path_sum}
use Rattle.rooted_tree.specs.Steps.Subtotal.{subtotal, inner}
use Rattle.rooted_tree.proofs.Laws.Rooted.{path-sum_root, path-sum-step, depth-step}
use Rattle.tree_pivot.specs.Steps.PivotCost.{Potential}
use Rattle.tree_pivot.specs.Steps.PivotTables.{Totals}
use Rattle.tree_pivot.specs.Steps.Basis.{ground_potential}
use Rattle.first_basis.specs.Steps.TreePotential.{HasPotential, rise, fall, net_rise, potential_at}

path-sum-short : (n : ℕ) (p f : ℕ → ℕ) (y : ℕ) → n ≤ 64 → ((x : ℕ) → x < n → f x ≤ 65535) → path_sum p n f y < 2 ^ 22
path-sum-short n p f y few short =
    omega (
      arith,
      sum-le-mul n 65535 (λ x. pick (below p n y x) (f x)) (λ x k. omega (arith, pick-le (below p n y x) (f x), short x k)),
    )

module _ {n : ℕ} {p l : ℕ → ℕ} (up : ℕ → Bool) (t : Rooted n 0 p) (few : n ≤ 64)
    (short : (x : ℕ) → x < n → (x ≡ 0 → ⊥) → l x ≤ 65535) where
  inner-short : (b : Bool) (x : ℕ) → x < n → inner 0 x (pick b (l x)) ≤ 65535
  inner-short b x k =
      case≡ x 0
      (λ e. rw (eq-eqb x 0 e) (omega arith))
      (λ d. rw (ne_eqb x 0 d) (omega (arith, pick-le b (l x), short x k d)))

  rise-short : (y : ℕ) → path_sum p n (rise n p l up) y < 2 ^ 22
  unfolding rise
  rise-short y = path-sum-short n p (rise n p l up) y few (λ x. inner-short (up x) x)

  fall-short : (y : ℕ) → path_sum p n (fall n p l up) y < 2 ^ 22
  unfolding fall
  fall-short y = path-sum-short n p (fall n p l up) y few (λ x. inner-short (not (up x)) x)

  net_rise_range : (y : ℕ) → (2 ^ 22 ≤ net_rise n p l up y) × (net_rise n p l up y ≤ 2 ^ 23 + 2 ^ 22)
  unfolding net_rise
  net_rise_range y = (omega (arith, fall-short y), omega (arith, rise-short y))

  net_rise_root : net_rise n p l up 0 ≡ ground_potential
  unfolding net_rise rise fall
  net_rise_root =
      let e : rise n p l up 0 ≡ 0 = refl in
      let f : fall n p l up 0 ≡ 0 = refl in
      omega (arith, path-sum_root t (rise n p l up), path-sum_root t (fall n p l up), e, f)

  module _ (x : ℕ) (k : x < n) (d : x ≡ 0 → ⊥) where
    net_rise-rises : up x ≡ true → net_rise n p l up x ≡ net_rise n p l up (p x) + l x
    unfolding net_rise rise fall
    net_rise-rises h =
        let e : rise n p l up x ≡ l x = rw (ne_eqb x 0 d, h) in
        let f : fall n p l up x ≡ 0 = rw (ne_eqb x 0 d, h) in
        omega (arith, path-sum-step t (rise n p l up) x k d, path-sum-step t (fall n p l up) x k d, fall-short x, e, f)

    net_rise-falls : up x ≡ false → net_rise n p l up (p x) ≡ net_rise n p l up x + l x
    unfolding net_rise rise fall
    net_rise-falls h =
        let e : rise n p l up x ≡ 0 = rw (ne_eqb x 0 d, h) in
        let f : fall n p l up x ≡ l x = rw (ne_eqb x 0 d, h) in
        omega (arith, path-sum-step t (rise n p l up) x k d, path-sum-step t (fall n p l up) x k d, fall-short x, e, f)

-- u is by as much off the offset as the potential of y is off that of x
pub record PotentialFrom (n : ℕ) (parents lengths supply demand : List ℕ) (y x u : ℕ) : Type 0 where
  pub low : x < n
  pub change : u + potential_at n parents lengths supply demand x ≡ ground_potential + potential_at n parents lengths supply demand y

module _ {n : ℕ} {parents lengths supply demand : List ℕ} (can : HasPotential n parents lengths supply demand) where
  abbrev U : ℕ → ℕ
  U = potential_at n parents lengths supply demand

  range : (y : ℕ) → (2 ^ 22 ≤ U y) × (U y ≤ 2 ^ 23 + 2 ^ 22)
  range = net_rise_range (λ x. ltb (at demand x) (at supply x)) can.tree can.few can.short

  root : U 0 ≡ ground_potential
  root = net_rise_root (λ x. ltb (at demand x) (at supply x)) can.tree can.few can.short

  module _ (x : ℕ) (k : x < n) (d : x ≡ 0 → ⊥) where
    up : at demand x < at supply x → U x ≡ U (at parents x) + at lengths x
    up h = net_rise-rises (λ x. ltb (at demand x) (at supply x)) can.tree can.few can.short x k d (lt-ltb _ _ h)

    down : at supply x ≤ at demand x → U (at parents x) ≡ U x + at lengths x
    down h = net_rise-falls (λ x. ltb (at demand x) (at supply x)) can.tree can.few can.short x k d (le-ltb _ _ h)

  pub from_none : {y : ℕ} → y < n → PotentialFrom n parents lengths supply demand y y ground_potential
  from_none l = record { low = l; change = refl }

  module _ {y x u : ℕ} (w : PotentialFrom n parents lengths supply demand y x u) where
    pub from_end : x ≡ 0 → u ≡ U y
    from_end e = omega (arith, w.change, root, ap U e)

    module _ (d : x ≡ 0 → ⊥) where
      pub from_less : depth (at parents) 0 n (at parents x) < depth (at parents) 0 n x
      from_less = omega (arith, depth-step can.tree x w.low d)

      pub from_fits : u + at lengths x < 2 ^ 32
      from_fits = omega (arith, w.change, range y, can.short x w.low d)

      pub from_more : at demand x < at supply x → PotentialFrom n parents lengths supply demand y (at parents x) (u + at lengths x)
      from_more h = record { low = can.tree.into x w.low; change = omega (arith, w.change, up x w.low d h) }

      pub from_enough : at supply x ≤ at demand x → at lengths x ≤ u
      from_enough h = omega (arith, w.change, down x w.low d h, range y, range (at parents x))

      pub from_fewer : at supply x ≤ at demand x → PotentialFrom n parents lengths supply demand y (at parents x) (u - at lengths x)
      from_fewer h = record {
        low = can.tree.into x w.low;
        change = omega (arith, w.change, down x w.low d h, from_enough h);
      }

-- ---- in the search
module _ {n : ℕ} {parents lengths supply demand old potential : List ℕ} (can : HasPotential n parents lengths supply demand)
    (w : Filled n (potential_at n parents lengths supply demand) old potential) where
  pub grounded : at potential 0 ≡ ground_potential
  grounded = w.each 0 can.tree.root ∙ root can

  -- it balances the masses m and v
  pub balances : {len : ℕ → ℕ → ℕ} {m v : ℕ → ℕ} → sum n m ≡ sum n v
      → ((x : ℕ) → x < n → (x ≡ 0 → ⊥) → subtotal (at parents) n m x ≡ subtotal (at parents) n v x → ⊥)
      → ((x : ℕ) → x < n → (x ≡ 0 → ⊥) → at lengths x ≡ len x (at parents x))
      → Totals n (at parents) m supply → Totals n (at parents) v demand
      → Potential n 0 (at parents) len m v (at potential)
  balances same nonzero lengths-is supply_is demand_is = record {
    same = same;
    nonzero = nonzero;
    agrees = λ x l d.
        let s = supply_is x l in
        let t = demand_is x l in
        let k = lengths-is x l d in
        let u = w.each x l in
        let z = w.each (at parents x) (can.tree.into x l) in
        case< (at demand x) (at supply x)
        (λ h. inl (omega arith, omega (arith, up can x l d h)))
        (λ h. inr (omega arith, omega (arith, down can x l d h)));
  }
