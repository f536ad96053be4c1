-- Pointer doubling, and the test that every chain reaches the root.
use mathlib.Core.Path.{◌≡◌, sym, ap, ◌∙◌}
use mathlib.Core.Bool.{Bool, true}
use mathlib.Core.List.{List}
use Prim.Native.Nat.{ℕ, zero, suc, ◌+◌, ◌*◌, ◌≤◌, ◌<◌}
use native.Mathlib.Nat.{zero-add, suc-add}
use native.Mathlib.Omega.{arith}
use lib.Dec.{eqb}
use lib.ListN.{length, set, length-set}
use lib.Seq.{get_or-set_same, get_or-set_other}
use borrow.Author.Tests.{eqb-true, eq-eqb}
use Rattle.arithmetic.specs.Bools.{all}
use Rattle.arithmetic.specs.Table.{at}
use Rattle.arithmetic.proofs.Laws.Bools.{case≡, both, all-at, all_intro}
use Rattle.rooted_tree.specs.Chain.{climb}
use Rattle.rooted_tree.specs.Steps.Rooted.{Rooted}
use Rattle.rooted_tree.proofs.Laws.Rooted.{climb_on, chains_rooted}
use Rattle.tree_checks.specs.Checks.{chains_ok}
use Rattle.tree_checks.specs.Steps.TreeTests.{Parents}
use Rattle.tree_checks.specs.Steps.Doubling.{Vertices, Ahead}
use Rattle.tree_checks.proofs.Laws.TreeTests.{chains_say, chains_hold}

-- y is met from x after k steps up, or more
abbrev Far : (ℕ → ℕ) → ℕ → ℕ → ℕ → Type 0
Far p k x y = (s : ℕ) × ((k ≤ s) × (climb p s x ≡ y))

climb_plus : (p : ℕ → ℕ) (i j x : ℕ) → climb p (i + j) x ≡ climb p j (climb p i x)
unfolding climb
climb_plus p zero j x = rw zero-add
climb_plus p (suc i) j x = rw suc-add (climb_plus p i j (p x))

far_twice : (p : ℕ → ℕ) (k x y z : ℕ) → Far p k x y → Far p k y z → Far p (2 * k) x z
far_twice p k x y z a b =
    (a.0 + b.0, (omega (arith, a.1.0, b.1.0), climb_plus p a.0 b.0 x ∙ ap (climb p b.0) a.1.1 ∙ b.1.1))

-- what holds of each entry, and of what is stored, holds of each entry after
stored : (P : ℕ → ℕ → Type 0) (l : List ℕ) (m v : ℕ) → m < length l → P m v → (x : ℕ) → ((x ≡ m → ⊥) → P x (at l x)) → P x (at (set l m v) x)
stored P l m v h q x f =
    case≡ x m (λ e. rw (e, get_or-set_same l m v 0 h) q) (λ d. rw (get_or-set_other l m x v 0 d) (f d))

-- a round of doubling, made for the first m of n vertices
pub record Doubling (n m : ℕ) (old new : List ℕ) : Type 0 where
  pub inside : Vertices n new
  pub far : (p : ℕ → ℕ) (k : ℕ) → Ahead n p k old → (x : ℕ) → x < n → Far p k x (at new x)
  pub done : (p : ℕ → ℕ) (k : ℕ) → Ahead n p k old → (x : ℕ) → x < m → Far p (2 * k) x (at new x)

pub doubling_none : {n : ℕ} {l : List ℕ} → Vertices n l → Doubling n 0 l l
doubling_none h = record { inside = h; far = λ p k a. a.far; done = λ p k a x l. absurd (omega arith) }

module _ {n m : ℕ} {old new : List ℕ} (w : Doubling n m old new) where
  pub doubling_more : m < n → Doubling n (m + 1) old (set new m (at new (at new m)))
  doubling_more h = record {
    inside = record {
      room = rw (length-set new m v) w.inside.room;
      low = λ x l. stored (λ _ y. y < n) new m v short (w.inside.low _ low) x (λ _. w.inside.low x l);
    };
    far = λ p k a x l.
        let t = twice p k a in
        stored (Far p k) new m v short (t.0, (omega (arith, t.1.0), t.1.1)) x (λ _. w.far p k a x l);
    done = λ p k a x l. stored (Far p (2 * k)) new m v short (twice p k a) x (λ d. w.done p k a x (omega arith));
  }
    where
      v : ℕ
      v = at new (at new m)

      low : at new m < n
      low = w.inside.low m h

      short : m < length new
      short = omega (arith, w.inside.room)

      twice : (p : ℕ → ℕ) (k : ℕ) → Ahead n p k old → Far p (2 * k) m v
      twice p k a = far_twice p k m (at new m) v (w.far p k a m h) (w.far p k a (at new m) low)

  pub doubling_end : n ≤ m → (p : ℕ → ℕ) (k : ℕ) → Ahead n p k old → Ahead n p (2 * k) new
  doubling_end h p k a = record { inside = w.inside; far = λ x l. w.done p k a x (omega arith) }

module _ {n r : ℕ} {p : ℕ → ℕ} (t : Parents n r p) (table : List ℕ) where
  pub ahead_first : n ≤ length table → ((x : ℕ) → x < n → at table x ≡ p x) → Ahead n p 1 table
  unfolding climb
  ahead_first h e = record {
    inside = record { room = h; low = λ x l. rw (e x l) (t.into x l) };
    far = λ x l. (1, (omega arith, sym (e x l)));
  }

  -- every chain reaches the root where n steps or more lead to it from each vertex
  pub ahead_end : {k : ℕ} → n ≤ k → Ahead n p k table → all n (λ x. eqb (at table x) r) ≡ chains_ok n r p
  ahead_end h a = both _ _ (λ e. chains_hold n r p (rooted e).up) (λ e. all_intro n at_root (λ x l. eq-eqb (at table x) r (stays e x l)))
    where
      at_root : ℕ → Bool
      at_root x = eqb (at table x) r

      rooted : all n at_root ≡ true → Rooted n r p
      rooted e =
          chains_rooted n r p t.root t.stay t.into
          (λ x l. ((a.far x l).0, (a.far x l).1.1 ∙ eqb-true (at table x) r (all-at n at_root e x l)))

      stays : chains_ok n r p ≡ true → (x : ℕ) → x < n → at table x ≡ r
      stays e x l =
          let f = a.far x l in
          sym f.1.1 ∙ climb_on r p t.stay n f.0 x (omega (arith, f.1.0)) (chains_say n r p e x l)
