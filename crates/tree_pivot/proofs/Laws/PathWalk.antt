-- A walk up a tree, from the vertex `from` to the vertex `stop` above it, that stores a number at each vertex on the way but `stop`.
use mathlib.Core.Path.{◌≡◌, refl, sym, ap, ◌∙◌}
use mathlib.Core.Bool.{Bool, true, false, not, ◌&&◌}
use mathlib.Core.List.{List}
use Prim.Native.Nat.{ℕ, ◌<◌}
use native.Mathlib.Omega.{arith}
use lib.ListN.{length, set, length-set}
use lib.Seq.{get_or-set_same, get_or-set_other}
use borrow.Author.Tests.{ne_eqb, not-true}
use Rattle.arithmetic.specs.Table.{at}
use Rattle.arithmetic.proofs.Laws.Bools.{case, case≡, clash, is_false, and_l, and_r}
use Rattle.rooted_tree.specs.Chain.{below, depth}
use Rattle.rooted_tree.specs.Steps.Rooted.{Rooted}
use Rattle.rooted_tree.proofs.Laws.Rooted.{tree_ind, at-step, refl_b, up_b, parent_b, down_b, trans_b, root_b, comparable, antisym, parent_out, depth-step, depth_strict, depth_mono}
use Rattle.tree_pivot.specs.Steps.Pivot.{Toward}
use Rattle.tree_pivot.specs.Steps.PathWalk.{CanWalk, passed, Stored, Handed}

-- y is on the path from `from` up to `stop`
pub record OnPath (n : ℕ) (p : ℕ → ℕ) (from stop y : ℕ) : Type 0 where
  pub low : y < n
  pub begun : below p n from y ≡ true
  pub ahead : below p n y stop ≡ true

-- ---- the child towards a vertex
module _ {n r : ℕ} {p : ℕ → ℕ} (t : Rooted n r p) where
  -- a vertex above a has a child towards a,
  pub toward_some : (x a : ℕ) → a < n → below p n a x ≡ true → (x ≡ a → ⊥) → (z : ℕ) × Toward n p a x z
  toward_some x =
      tree_ind t (λ a. below p n a x ≡ true → (x ≡ a → ⊥) → (z : ℕ) × Toward n p a x z)
      (λ h d. absurd (d (sym (root_b t x h))))
      (λ a l inner next h d. case≡ x (p a)
      (λ e. (a, record { low = l; from = refl_b t a l; over = sym e; other = λ i. d (sym i) }))
      (λ e. let z = next (down_b t a x l h (λ i. d (sym i))) e in
      (z.0, record { low = z.1.low; from = up_b t a z.0 l z.1.from; over = z.1.over; other = z.1.other })))

  -- and only one
  toward_unique : (a x y z : ℕ) → a < n → Toward n p a x y → Toward n p a x z → y ≡ z
  toward_unique a x y z la v w =
      case≡ y z (λ e. e) (λ d. absurd (case (below p n y z)
      (λ h. omega (arith, depth_strict t z y v.low h d, same))
      (λ h. omega (arith, depth_strict t y z w.low (comparable t y z a la v.from w.from h) (λ e. d (sym e)), same))))
    where
      inner : (u : ℕ) → Toward n p a x u → u ≡ r → ⊥
      inner u k e = k.other (e ∙ sym t.stay ∙ rw e at k.over)

      same : depth p r n y ≡ depth p r n z
      same = rw (depth-step t y v.low (inner y v), depth-step t z w.low (inner z w), v.over, w.over)

-- ---- the path
pub and-not : (a b : Bool) → a ≡ true → b ≡ false → a && not b ≡ true
and-not a b e f = cc

pub not_both : (a b : Bool) → b ≡ true → a && not b ≡ false
not_both true b e = cc
not_both false b e = refl

pub met_not : (a b : Bool) → a && not b ≡ true → b ≡ false
met_not a b h = not-true b (and_r a (not b) h)

module _ {n r : ℕ} {p : ℕ → ℕ} {from stop : ℕ} (can : CanWalk n r p from stop) where
  pub path_none : OnPath n p from stop from
  path_none = record { low = can.from_low; begun = refl_b can.tree from can.from_low; ahead = can.up }

  module _ {y : ℕ} (on : OnPath n p from stop y) (go : y ≡ stop → ⊥) where
    pub path-inner : y ≡ r → ⊥
    path-inner e = go (e ∙ root_b can.tree stop (rw e at on.ahead))

    pub path_more : OnPath n p from stop (p y)
    path_more = record {
      low = can.tree.into y on.low;
      begun = trans_b can.tree y (p y) from can.from_low on.begun (parent_b can.tree y on.low);
      ahead = down_b can.tree y stop on.low on.ahead go;
    }

    pub path_less : depth p r n (p y) < depth p r n y
    path_less = omega (arith, depth-step can.tree y on.low path-inner)

    -- y is met before `stop`
    pub path_met : passed n p from stop y ≡ true
    path_met =
        and-not _ _ on.begun
        (is_false _ (λ h. go (antisym can.tree stop y can.stop_low on.low on.ahead h)))

    -- y hands on f y to its parent
    pub hand_more : (f : ℕ → ℕ) (first : ℕ) → Handed n p from f first (p y) (f y)
    hand_more f first = record {
      begins = λ e. absurd (omega (arith, depth-step can.tree y on.low path-inner, depth_mono can.tree y from can.from_low on.begun, ap (depth p r n) e));
      passes = λ z w. ap f (toward_unique can.tree from (p y) y z can.from_low own w);
    }
      where
        own : Toward n p from (p y) y
        own = record { low = on.low; from = on.begun; over = refl; other = λ e. omega (arith, path_less, ap (depth p r n) e) }

  pub hand_none : (f : ℕ → ℕ) (first : ℕ) → Handed n p from f first from first
  hand_none f first = record {
    begins = λ e. refl;
    passes = λ z w. absurd (w.other (antisym can.tree from z can.from_low w.low
        (rw w.over at (parent_b can.tree z w.low)) w.from));
  }

  -- ---- what is stored on it
  pub stored_none : {D : ℕ → ℕ → Type 0} {t : List ℕ} → Stored n p from from D t t
  stored_none = record {
    size = refl;
    done = λ x l h. clash (and_l (below p n from x) _ h) (met_not (below p n from x) (below p n from x) h);
    kept = λ x l h. refl;
  }

  module _ {y : ℕ} (on : OnPath n p from stop y) {D : ℕ → ℕ → Type 0} {t u : List ℕ} (w : Stored n p from y D t u) where
    -- y's number is as it was
    pub stored_kept : at u y ≡ at t y
    stored_kept = w.kept y on.low (not_both (below p n from y) _ (refl_b can.tree y on.low))

    pub stored_end : y ≡ stop → Stored n p from stop D t u
    stored_end e = rw e at w

    module _ (go : y ≡ stop → ⊥) where
      met_other : (x : ℕ) → (x ≡ y → ⊥) → passed n p from y x ≡ passed n p from (p y) x
      met_other x d = rw (at-step can.tree y x on.low, ne_eqb y x (λ e. d (sym e)))

      pub stored_more : (k : ℕ) → y < length t → D y k → Stored n p from (p y) D t (set u y k)
      stored_more k fits now = record {
        size = length-set u y k ∙ w.size;
        done = λ x l h. case≡ x y
            (λ e. rw (e, get_or-set_same u y k 0 (omega (arith, w.size))) now)
            (λ d. rw (get_or-set_other u y x k 0 d) (w.done x l (met_other x d ∙ h)));
        kept = λ x l h. case≡ x y
            (λ e. clash (and-not _ _ on.begun (parent_out can.tree y on.low (path-inner on go))) (rw e at h))
            (λ d. get_or-set_other u y x k 0 d ∙ w.kept x l (met_other x d ∙ h));
      }
