-- Masses summed up a tree, by falling depth.
use mathlib.Core.Path.{◌≡◌, refl, sym, ap, ◌∙◌}
use mathlib.Core.Bool.{Bool, true, false, not, and-false, or-false, ◌&&◌, ◌||◌}
use mathlib.Core.List.{List}
use Prim.Native.Nat.{ℕ, ◌+◌, ◌-◌, ◌*◌, ◌%◌, ◌^◌, ◌≤◌, ◌<◌}
use native.Mathlib.Nat.{zero-div}
use native.Mathlib.Omega.{arith}
use lib.Dec.{eqb, ltb}
use lib.ListN.{length, set, length-set}
use lib.Seq.{get_or-set_same, get_or-set_other}
use borrow.Author.Tests.{eqb-true, ne_eqb, lt-ltb, le-ltb}
use Rattle.arithmetic.specs.Sum.{pick, sum}
use Rattle.arithmetic.specs.Table.{at}
use Rattle.arithmetic.specs.Mask.{mask}
use Rattle.arithmetic.specs.Steps.Mask.{bit}
use Rattle.arithmetic.specs.Steps.Fill.{Filled}
use Rattle.arithmetic.specs.Steps.Table.{EachBelow}
use Rattle.arithmetic.proofs.Laws.Bools.{or_true_r, case, case≡, case<, clash, eqb_self}
use Rattle.arithmetic.proofs.Laws.Mask.{bit_mask, mask_bits}
use Rattle.arithmetic.proofs.Laws.Sum.{sum_ext, sum-le, sum_change, sum_zeros}
use Rattle.vertex_set.specs.Lowest.{lowest}
use Rattle.vertex_set.specs.Steps.Sets.{Depths}
use Rattle.vertex_set.proofs.Laws.Without.{Without, without-lowest}
use Rattle.rooted_tree.specs.Chain.{below, depth, is_child}
use Rattle.rooted_tree.specs.Steps.Rooted.{Rooted}
use Rattle.rooted_tree.specs.Steps.Subtotal.{subtotal}
use Rattle.rooted_tree.proofs.Laws.Rooted.{depth_root, depth-step, depth-lt}
use Rattle.rooted_tree.proofs.Laws.Subtotal.{subtotal-le, subtotal_children}
use Rattle.subtree_sums.specs.Steps.Sums.{Light, Layered}

-- the vertices for which `passed` holds have added what is below them to what their parents have
pub record PassedUp (n r : ℕ) (p m : ℕ → ℕ) (passed : ℕ → Bool) (sums : ℕ → ℕ) : Type 0 where
  pub each : (z : ℕ) → z < n → sums z ≡ m z + sum n (λ c. pick (passed c && is_child r p z c) (subtotal p n m c))

module _ {n r : ℕ} {p : ℕ → ℕ} (t : Rooted n r p) (m : ℕ → ℕ) where
  -- some have passed on what all do in the end
  some_most : (passed : ℕ → Bool) (z : ℕ) → z < n → m z + sum n (λ c. pick (passed c && is_child r p z c) (subtotal p n m c)) ≤ sum n m
  some_most passed z l =
      omega (
        arith,
        subtotal_children t m z l,
        subtotal-le p n m z,
        sum-le n (λ c. pick (passed c && is_child r p z c) (subtotal p n m c)) (λ c. pick (is_child r p z c) (subtotal p n m c)) (λ c k.
            case (passed c) (λ e. rw e (omega arith)) (λ e. rw e (omega arith))),
      )

  module _ (passed : ℕ → Bool) (sums : List ℕ) (w : PassedUp n r p m passed (at sums)) where
    -- where all children have passed, the mass below is there
    complete : (z : ℕ) → z < n → ((c : ℕ) → c < n → is_child r p z c ≡ true → passed c ≡ true) → at sums z ≡ subtotal p n m z
    complete z l all =
        w.each z l ∙ ap (λ (s : ℕ). m z + s) (sum_ext n _ _ (λ c k.
        case (is_child r p z c) (λ e. rw (e, all c k e)) (λ e. rw e (case (passed c) (λ f. rw f) (λ f. rw f)))))
        ∙ sym (subtotal_children t m z l)

    module _ (x : ℕ) (l : x < n) (inner : x ≡ r → ⊥) (new : passed x ≡ false)
        (all : (c : ℕ) → c < n → is_child r p x c ≡ true → passed c ≡ true) where
      -- x too passes on what is below it
      abbrev pub after : ℕ → Bool
      after c = passed c || eqb c x

      below_x : at sums x ≡ subtotal p n m x
      below_x = complete x l all

      own : is_child r p (p x) x ≡ true
      own = rw (ne_eqb x r inner, eqb_self (p x))

      to-parent : sum n (λ c. pick (after c && is_child r p (p x) c) (subtotal p n m c))
          ≡ sum n (λ c. pick (passed c && is_child r p (p x) c) (subtotal p n m c)) + subtotal p n m x
      to-parent =
          omega (
            arith,
            rw (new, eqb_self x, own) at
                (sum_change n x (λ c. pick ((passed c || eqb c x) && is_child r p (p x) c) (subtotal p n m c))
                (λ c. pick (passed c && is_child r p (p x) c) (subtotal p n m c)) l
                (λ c k d. rw (ne_eqb c x d, or-false (passed c)))),
          )

      to_others : (z : ℕ) → (z ≡ p x → ⊥) → sum n (λ c. pick (after c && is_child r p z c) (subtotal p n m c))
          ≡ sum n (λ c. pick (passed c && is_child r p z c) (subtotal p n m c))
      to_others z d =
          sum_ext n _ _ (λ c k.
          case≡ c x
          (λ e. rw (e, ne_eqb (p x) z (λ q. d (sym q)), and-false (not (eqb x r)), and-false (passed x), and-false (passed x || eqb x x)))
          (λ f. rw (ne_eqb c x f, or-false (passed c))))

      pub passing_fits : at sums (p x) + at sums x ≤ sum n m
      passing_fits = omega (arith, below_x, w.each (p x) (t.into x l), to-parent, some_most after (p x) (t.into x l))

      pub passing_more : n ≤ length sums → PassedUp n r p m after (at (set sums (p x) (at sums (p x) + at sums x)))
      passing_more long = record {
        each = λ z k.
            case≡ z (p x)
            (λ e. rw (e, get_or-set_same sums (p x) (at sums (p x) + at sums x) 0 (omega (arith, t.into x l)))
            (omega (arith, below_x, w.each (p x) (t.into x l), to-parent)))
            (λ d. rw (get_or-set_other sums (p x) z (at sums (p x) + at sums x) 0 d, to_others z d) (w.each z k));
      }

passing_ext : {n r : ℕ} {p m : ℕ → ℕ} {f g : ℕ → Bool} {sums : ℕ → ℕ} → ((c : ℕ) → c < n → f c ≡ g c) → PassedUp n r p m f sums → PassedUp n r p m g sums
passing_ext {n} {m = m} h w = record { each = λ z l. w.each z l ∙ ap (λ (s : ℕ). m z + s) (sum_ext n _ _ (λ c k. rw (h c k))) }

-- ---- layer by layer

-- c is deeper than d, or of depth d and not left
abbrev pub passed_by : List ℕ → (d left : ℕ) → ℕ → Bool
passed_by depths d left c = ltb d (at depths c) || (eqb (at depths c) d && not (bit left c))

-- vertices of depth d are left
pub record Layer (n : ℕ) (depths : List ℕ) (d left : ℕ) : Type 0 where
  pub low : d < n
  pub set : left ≡ mask n (bit left)
  pub deep : (x : ℕ) → x < n → bit left x ≡ true → at depths x ≡ d

pub layer_of : {n : ℕ} (depths : List ℕ) {d left : ℕ} → d < n → left ≡ mask n (λ x. eqb (at depths x) d) → Layer n depths d left
layer_of {n} depths {d} {left} h e = record {
  low = h;
  set = mask_bits n _ left e;
  deep = λ x l b. eqb-true (at depths x) d (sym (bit_mask n _ x l) ∙ sym (ap (λ (w : ℕ). bit w x) e) ∙ b);
}

-- the masses m are passed on from all vertices but those left and those less deep
pub record Summing (n : ℕ) (p : ℕ → ℕ) (depths : List ℕ) (g : Layered n p depths) (m : ℕ → ℕ) (d left : ℕ) (old sums : List ℕ) : Type 0 where
  pub size : length sums ≡ length old
  pub each : PassedUp n g.root p m (passed_by depths d left) (at sums)

module _ {n : ℕ} {p : ℕ → ℕ} {depths : List ℕ} (g : Layered n p depths) where
  pub depths_few : Depths n depths
  depths_few = record { long = g.long; each = λ x l. omega (arith, g.are x l, depth-lt g.tree x l) }

  -- no vertex is as deep as n
  pub summing_first : (sums : List ℕ) → Summing n p depths g (at sums) n 0 sums sums
  summing_first sums = record {
    size = refl;
    each = record {
      each = λ z l.
          omega (
            arith,
            sum_zeros n (λ c. pick (passed_by depths n 0 c && is_child g.root p z c) (subtotal p n (at sums) c)) (λ c k.
                rw (none c k)),
          );
    };
  }
    where
      none : (c : ℕ) → c < n → passed_by depths n 0 c ≡ false
      none c k =
          let h : at depths c < n = omega (arith, g.are c k, depth-lt g.tree c k) in
          rw (le-ltb n (at depths c) (omega arith), ne_eqb (at depths c) n (λ e. omega arith))

  module _ {m : ℕ → ℕ} {d left : ℕ} {old sums : List ℕ} (w : Summing n p depths g m d left old sums) where
    -- nothing is left: the layer above comes next
    pub summing_down : left ≡ 0 → 0 < d → {next : ℕ} → next ≡ mask n (λ x. eqb (at depths x) (d - 1)) → Summing n p depths g m (d - 1) next old sums
    summing_down z pos {next} e = record { size = w.size; each = passing_ext same w.each }
      where
        same : (c : ℕ) → c < n → passed_by depths d left c ≡ passed_by depths (d - 1) next c
        same c k =
            let b : bit next c ≡ eqb (at depths c) (d - 1) = ap (λ (v : ℕ). bit v c) e ∙ bit_mask n _ c k in
            rw (z, zero-div (2 ^ c), b)
            (case< (d - 1) (at depths c)
            (λ l. rw (lt-ltb (d - 1) (at depths c) l)
            (case≡ (at depths c) d
            (λ q. rw (q, eqb_self d) (or_true_r (ltb d d) _ refl))
            (λ q. rw (lt-ltb d (at depths c) (omega arith)))))
            (λ l. rw (le-ltb (d - 1) (at depths c) l, le-ltb d (at depths c) (omega arith), ne_eqb (at depths c) d (λ q. omega arith))
            (case (eqb (at depths c) (d - 1)) (λ q. rw q) (λ q. rw q))))

    module _ (few : n ≤ 64) (y : Layer n depths d left) (deep : 0 < d) {x : ℕ} (first : (x ≡ lowest (bit left) n 0) × (x < n)) where
      pub layer-out : Without n left x ((1 * 2 ^ x) % 2 ^ 64)
      layer-out = without-lowest n left x few y.set first

      at_x : at depths x ≡ d
      at_x = y.deep x first.1 layer-out.has

      inside : x ≡ g.root → ⊥
      inside e = omega (arith, at_x, g.are x first.1, ap (depth p g.root n) e, depth_root g.tree)

      fresh : passed_by depths d left x ≡ false
      fresh = rw (at_x, eqb_self d, layer-out.has, le-ltb d d (omega arith))

      before : (c : ℕ) → c < n → is_child g.root p x c ≡ true → passed_by depths d left c ≡ true
      before c k e =
          case≡ c g.root
          (λ q. clash (rw (q, eqb_self g.root) at e) refl)
          (λ q.
          let up : p c ≡ x = eqb-true (p c) x (rw (ne_eqb c g.root q) at e) in
          let h : at depths c ≡ d + 1 = omega (arith, g.are c k, depth-step g.tree c k q, ap (depth p g.root n) up, g.are x first.1, at_x) in
          rw (h, lt-ltb d (d + 1) (omega arith)))

      pub summing_fits : at sums (p x) + at sums x ≤ sum n m
      summing_fits = passing_fits g.tree m _ sums w.each x first.1 inside fresh before

      pub layer_more : Layer n depths d (left - (1 * 2 ^ x) % 2 ^ 64)
      layer_more = record {
        low = y.low;
        set = layer-out.word;
        deep = λ c k b.
            case≡ c x (λ q. clash (rw q at b) layer-out.gone) (λ q. y.deep c k (sym (layer-out.kept c k q) ∙ b));
      }

      pub summing_more : n ≤ length old → Summing n p depths g m d (left - (1 * 2 ^ x) % 2 ^ 64) old (set sums (p x) (at sums (p x) + at sums x))
      summing_more long = record {
        size = length-set sums (p x) _ ∙ w.size;
        each = passing_ext same (passing_more g.tree m _ sums w.each x first.1 inside fresh before (omega (arith, w.size)));
      }
        where
          same : (c : ℕ) → c < n → passed_by depths d left c || eqb c x ≡ passed_by depths d (left - (1 * 2 ^ x) % 2 ^ 64) c
          same c k =
              case≡ c x
              (λ q. rw (q, fresh, eqb_self x, at_x, eqb_self d, layer-out.gone) (sym (or_true_r (ltb d d) _ refl)))
              (λ q. rw (ne_eqb c x q, layer-out.kept c k q) (or-false _))

    -- all but the root, the one vertex of depth 0, have passed on
    pub summing_end : left ≡ 0 → d ≤ 1 → Filled n (subtotal p n m) old sums
    summing_end e h = record {
      size = w.size;
      each = λ z l. complete g.tree m _ sums w.each z l (λ c k i.
          case≡ c g.root
          (λ q. clash (rw (q, eqb_self g.root) at i) refl)
          (λ q. passed c (omega (arith, g.are c k, depth-step g.tree c k q))));
    }
      where
        passed : (c : ℕ) → d ≤ at depths c → passed_by depths d left c ≡ true
        passed c k =
            case< d (at depths c)
            (λ i. rw (lt-ltb d (at depths c) i))
            (λ i. let q : at depths c ≡ d = omega arith in rw (e, q, eqb_self d, zero-div (2 ^ c)) (or_true_r (ltb d d) _ refl))

-- the subtotals of a table are those of the masses that it was filled with
pub filled-subtotal : {n : ℕ} (p : ℕ → ℕ) {m : ℕ → ℕ} {old masses old' new : List ℕ} → Filled n m old masses
    → Filled n (subtotal p n (at masses)) old' new → Filled n (subtotal p n m) old' new
unfolding subtotal
filled-subtotal {n} p w u = record {
  size = u.size;
  each = λ x l. u.each x l ∙ sum_ext n _ _ (λ y k. ap (λ (z : ℕ). pick (below p n y x) z) (w.each y k));
}

-- and so is their total
pub filled_light : {n : ℕ} {m : ℕ → ℕ} {old new : List ℕ} → Filled n m old new → n ≤ length old → sum n m < 2 ^ 64 → Light n new
filled_light {n} {m} {new = new} w long total = record { long = omega (arith, w.size); total = omega (arith, sum_ext n (at new) m w.each) }

pub subtotals_within : (p : ℕ → ℕ) (n : ℕ) (m : ℕ → ℕ) (k : ℕ) (old new : List ℕ) → Filled n (subtotal p n m) old new → sum n m < k
    → EachBelow n (at new) k
subtotals_within p n m k old new w h x l = omega (arith, w.each x l, subtotal-le p n m x)
