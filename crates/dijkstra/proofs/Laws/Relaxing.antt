-- The steps of Dijkstra's method: a vertex of the frontier with the least label, and the edges from it, relaxed.
use Prim.Native.Nat.{ℕ, ◌+◌, ◌-◌, ◌*◌, ◌/◌, ◌%◌, ◌^◌, ◌≤◌, ◌<◌}
use mathlib.Core.Path.{◌≡◌, refl, sym, ap, ◌∙◌}
use mathlib.Core.Bool.{Bool, true, false, cond, ◌||◌, or-false}
use mathlib.Core.List.{List}
use native.Mathlib.Omega.{arith}
use lib.Bits.{bit_or}
use lib.Dec.{eqb, ltb}
use lib.ListN.{length, length-set}
use lib.Seq.{get_or-set_same, get_or-set_other}
use borrow.Author.Tests.{ne_eqb, lt-ltb, le-ltb, ltb-true, ltb-false}
use Rattle.arithmetic.specs.Steps.Mask.{bit}
use Rattle.arithmetic.specs.Table.{at}
use Rattle.arithmetic.proofs.Laws.Bools.{case, case≡, case<, clash, eqb_self}
use Rattle.arithmetic.proofs.Laws.Mask.{mask_bits}
use Rattle.vertex_set.specs.Lowest.{lowest}
use Rattle.vertex_set.proofs.Laws.Words.{or_vertex, or-bit}
use Rattle.vertex_set.proofs.Laws.Without.{Without, without_first}
use Rattle.forward_star.specs.Steps.Linked.{tail, latest}
use Rattle.forward_star.proofs.Laws.Linked.{tail_even, tail_odd, latest_most, latest_starts, latest_last}
use Rattle.path_labels.specs.Steps.Labels.{put}
use Rattle.dijkstra.specs.Steps.Relaxing.{IsWord, Lowered, CanRelax, Relaxed}

-- ---- a vertex of a word with the least label

-- x is the nearest of those vertices of w that are not left
pub record Nearer (w : ℕ) (label : ℕ → ℕ) (left x : ℕ) : Type 0 where
  pub word : IsWord left
  pub inside : x < 64
  pub has : bit w x ≡ true
  pub part : (v : ℕ) → v < 64 → bit left v ≡ true → bit w v ≡ true
  pub least : (v : ℕ) → v < 64 → bit w v ≡ true → bit left v ≡ false → label x ≤ label v

module _ {w : ℕ} {label : ℕ → ℕ} where
  pub nearer_first : {x : ℕ} → IsWord w → (x ≡ lowest (bit w) 64 0) × (x < 64) → (left : ℕ) → left ≡ w - 2 ^ lowest (bit w) 64 0
      → Nearer w label left x
  nearer_first {x} e first left q =
      let out = without_first 64 w x (2 ^ x) (omega arith) e first refl in
      rw (q, ← first.0) (record {
        word = out.word;
        inside = first.1;
        has = out.has;
        part = λ v l h. case≡ v x (λ q. clash (rw q at h) out.gone) (λ d. sym (out.kept v l d) ∙ h);
        least = λ v l h f. case≡ v x (λ q. omega (arith, ap label q)) (λ d. clash h (sym (out.kept v l d) ∙ f));
      })

  module _ {left x y : ℕ} (k : Nearer w label left x) (first : (y ≡ lowest (bit left) 64 0) × (y < 64)) where
    nearer-out : Without 64 left y (2 ^ y)
    nearer-out = without_first 64 left y (2 ^ y) (omega arith) k.word first refl

    abbrev Taken : ℕ → Type 0
    Taken left' = left' ≡ left - 2 ^ lowest (bit left) 64 0

    -- y has been looked at: x' is the nearer of the two
    pub nearer_more : (left' : ℕ) → Taken left' → (x' : ℕ) → x' ≡ cond (ltb (label y) (label x)) y x → Nearer w label left' x'
    nearer_more left' q x' e = rw (q, ← first.0) (record {
      word = nearer-out.word;
      inside = case (ltb (label y) (label x)) (λ t. rw (e, t) first.1) (λ t. rw (e, t) k.inside);
      has = case (ltb (label y) (label x)) (λ t. rw (e, t) (k.part y first.1 nearer-out.has)) (λ t. rw (e, t) k.has);
      part = λ v l h. case≡ v y (λ q. clash (rw q at h) nearer-out.gone) (λ d. k.part v l (sym (nearer-out.kept v l d) ∙ h));
      least = λ v l h f.
          case≡ v y
          (λ q. omega (arith, lower.0, ap label q))
          (λ d. omega (arith, lower.1, k.least v l h (sym (nearer-out.kept v l d) ∙ f)));
    })
      where
        lower : (label x' ≤ label y) × (label x' ≤ label x)
        lower =
            case (ltb (label y) (label x))
            (λ t. let h : label y < label x = ltb-true _ _ t in rw (e, t) (omega arith, omega arith))
            (λ t. let h : label x ≤ label y = ltb-false _ _ t in rw (e, t) (h, omega arith))

-- the frontier grows by what falls from p to q, and then by what falls from q to r
pub grown_on : (p q r : ℕ) (b : Bool) {c : Bool} → q ≤ p → r ≤ q → c ≡ b || ltb q p → c || ltb r q ≡ b || ltb r p
grown_on p q r b {c} h i e =
    case< q p
    (λ m. rw (lt-ltb r p (omega arith), e, lt-ltb q p m) (case b (λ t. rw t) (λ t. rw t)))
    (λ m. let z : q ≡ p = omega arith in rw (e, le-ltb q p m, or-false, z))

-- what a store leaves, made or not
module _ (t : Bool) (l : List ℕ) (i x : ℕ) (h : i < length l) where
  put_same : at (put t l i x) i ≡ cond t x (at l i)
  put_same = case t (λ e. rw e (get_or-set_same l i x 0 h)) (λ e. rw e)

  put_other : (v : ℕ) → (v ≡ i → ⊥) → at (put t l i x) v ≡ at l v
  put_other v d = case t (λ e. rw e (get_or-set_other l i v x 0 d)) (λ e. rw e)

  put_size : length (put t l i x) ≡ length l
  put_size = case t (λ e. rw e (length-set l i x)) (λ e. rw e)

-- ---- all arcs from x, from the last back to the first

-- the end of an arc that is not x, as code finds it
other_end : (a b : List ℕ) (i x : ℕ) → tail a b i ≡ x → at a (i / 2) + at b (i / 2) ≡ x + tail b a i
other_end a b i x e =
    case≡ (i % 2) 0
    (λ z. omega (arith, e, tail_even a b i z, tail_even b a i z))
    (λ d. let z : i % 2 ≡ 1 = omega arith in omega (arith, e, tail_odd a b i z, tail_odd b a i z))

module _ {a b lengths last before : List ℕ} {x near w : ℕ} {labels : List ℕ} (can : CanRelax a b lengths last before x near w labels) where
  pub last_most : at last x ≤ 2 * length a
  last_most = omega (arith, can.linked.last_is x can.here, latest_most (tail a b) x (2 * length a))

  relaxed_none : Relaxed a b lengths x near w labels (at last x) w labels
  relaxed_none = record {
    size = refl;
    word = can.word;
    lower = λ v. omega arith;
    done = λ i h l q. absurd (latest_last (tail a b) x (2 * length a) i (omega (arith, can.linked.last_is x can.here)) l q);
    along = λ v h. absurd (omega arith);
    grows = λ v l. rw (le-ltb (at labels v) (at labels v) (omega arith), or-false);
  }

  module _ (i : ℕ) (l : i < 2 * length a) (here : tail a b i ≡ x) where
    abbrev y : ℕ
    y = tail b a i

    edge_in : i / 2 < length a
    edge_in = omega arith

    end-in : y < 64
    end-in =
        case≡ (i % 2) 0
        (λ z. omega (arith, tail_even b a i z, can.ends (i / 2) edge_in))
        (λ d. let z : i % 2 ≡ 1 = omega arith in omega (arith, tail_odd b a i z, can.ends (i / 2) edge_in))

    before_latest : at before i ≡ latest (tail a b) x i
    before_latest = can.linked.before_is i l ∙ ap (λ (z : ℕ). latest (tail a b) z i) here

    low_before : at before i ≤ i
    low_before = omega (arith, before_latest, latest_most (tail a b) x i)

    module _ {w₁ : ℕ} {labels₁ : List ℕ} (k : Relaxed a b lengths x near w labels (i + 1) w₁ labels₁)
        {w₂ : ℕ} {labels₂ : List ℕ} (s : Lowered y (near + at lengths (i / 2)) w₁ labels₁ w₂ labels₂) where
      abbrev less : Bool
      less = ltb (near + at lengths (i / 2)) (at labels₁ y)

      room : y < length labels₁
      room = omega (arith, k.size, end-in, can.long)

      -- the label of y, and of the others
      this : at labels₂ y ≡ cond less (near + at lengths (i / 2)) (at labels₁ y)
      this = ap (λ (t : List ℕ). at t y) s.label ∙ put_same less labels₁ y (near + at lengths (i / 2)) room

      other : (v : ℕ) → (v ≡ y → ⊥) → at labels₂ v ≡ at labels₁ v
      other v d = ap (λ (t : List ℕ). at t v) s.label ∙ put_other less labels₁ y (near + at lengths (i / 2)) room v d

      low : (at labels₂ y ≤ at labels₁ y) × (at labels₂ y ≤ near + at lengths (i / 2))
      low =
          case less
          (λ t.
          let h : near + at lengths (i / 2) < at labels₁ y = ltb-true _ _ t in
          let q : at labels₂ y ≡ near + at lengths (i / 2) = this ∙ rw t in
          (omega arith, omega arith))
          (λ t.
          let h : at labels₁ y ≤ near + at lengths (i / 2) = ltb-false _ _ t in
          let q : at labels₂ y ≡ at labels₁ y = this ∙ rw t in
          (omega arith, omega arith))

      falls : (v : ℕ) → at labels₂ v ≤ at labels₁ v
      falls v = case≡ v y (λ q. rw q low.0) (λ d. omega (arith, other v d))

      -- y is lowered exactly where the frontier gets it
      lessens : ltb (at labels₂ y) (at labels₁ y) ≡ less
      lessens =
          case less
          (λ t.
          let h : near + at lengths (i / 2) < at labels₁ y = ltb-true _ _ t in
          let q : at labels₂ y ≡ near + at lengths (i / 2) = this ∙ rw t in
          rw t (lt-ltb (at labels₂ y) (at labels₁ y) (rw q h)))
          (λ t.
          let q : at labels₂ y ≡ at labels₁ y = this ∙ rw t in
          rw t (le-ltb (at labels₂ y) (at labels₁ y) (omega arith)))

      bits : (v : ℕ) → v < 64 → bit w₂ v ≡ bit w₁ v || ltb (at labels₂ v) (at labels₁ v)
      bits v few =
          case≡ v y
          (λ q. rw q (this_bit))
          (λ d. other_bit d)
        where
          this_bit : bit w₂ y ≡ bit w₁ y || ltb (at labels₂ y) (at labels₁ y)
          this_bit =
              case less
              (λ t. rw (lessens, t) (ap (λ (z : ℕ). bit z y) (s.word ∙ rw t) ∙ or-bit 64 w₁ y y end-in end-in ∙ rw (eqb_self y)))
              (λ t. rw (lessens, t, or-false) (ap (λ (z : ℕ). bit z y) (s.word ∙ rw t)))

          other_bit : (v ≡ y → ⊥) → bit w₂ v ≡ bit w₁ v || ltb (at labels₂ v) (at labels₁ v)
          other_bit d =
              let same : ltb (at labels₂ v) (at labels₁ v) ≡ false = le-ltb (at labels₂ v) (at labels₁ v) (omega (arith, other v d)) in
              rw (same, or-false)
              (case less
              (λ t. ap (λ (z : ℕ). bit z v) (s.word ∙ rw t) ∙ or-bit 64 w₁ y v end-in few ∙ rw (ne_eqb v y d, or-false))
              (λ t. ap (λ (z : ℕ). bit z v) (s.word ∙ rw t)))

      pub relaxed_more : Relaxed a b lengths x near w labels (at before i) w₂ labels₂
      relaxed_more = record {
        size = ap length s.label ∙ put_size less labels₁ y (near + at lengths (i / 2)) room ∙ k.size;
        word =
            case less
            (λ t. mask_bits 64 (λ z. bit w₁ z || eqb z y) w₂ (s.word ∙ rw t (ap (λ (z : ℕ). bit_or z (2 ^ y)) k.word ∙ or_vertex 64 (bit w₁) y end-in)))
            (λ t. let q : w₂ ≡ w₁ = s.word ∙ rw t in rw q k.word);
        lower = λ v. omega (arith, falls v, k.lower v);
        done = λ j h p q.
            case≡ j i
            (λ z. rw z low.1)
            (λ d. case< j i
            (λ m. absurd (latest_last (tail a b) x i j (omega (arith, before_latest)) m q))
            (λ m. omega (arith, falls (tail b a j), k.done j (omega arith) p q)));
        along = λ v h.
            case< (at labels₂ v) (at labels₁ v)
            (λ m. case≡ v y
            (λ z. record { number = i; here = l; starts = here; ends = sym z; label = new v z m })
            (λ d. absurd (omega (arith, other v d))))
            (λ m. let z : at labels₂ v ≡ at labels₁ v = omega (arith, falls v) in rw z (k.along v (omega arith)));
        grows = λ v q. bits v q ∙ grown_on (at labels v) (at labels₁ v) (at labels₂ v) (bit w v) (k.lower v) (falls v) (k.grows v q);
      }
        where
          new : (v : ℕ) → v ≡ y → at labels₂ v < at labels₁ v → at labels₂ v ≡ near + at lengths (i / 2)
          new v z m =
              case less
              (λ t. rw z (this ∙ rw t))
              (λ t. absurd (omega (arith, rw z at m, rw t at this)))

-- ---- the walk along the linked arcs

-- the arcs from number k on are relaxed; k is one more than the number of an arc from x, or 0
pub record Walked (a b lengths last before : List ℕ) (x near w : ℕ) (labels : List ℕ) (k w' : ℕ) (labels' : List ℕ) : Type 0 where
  pub low : k ≤ 2 * length a
  pub starts : (i : ℕ) → k ≡ i + 1 → tail a b i ≡ x
  pub relaxed : Relaxed a b lengths x near w labels k w' labels'

-- what the walk needs at arc i, which starts at x and ends at y
pub record Step (a b before : List ℕ) (x i : ℕ) (labels : List ℕ) : Type 0 where
  pub other : at a (i / 2) + at b (i / 2) ≡ x + tail b a i
  pub inside : tail b a i < 64
  pub falls : at before i ≤ i
  pub long : 64 ≤ length labels

module _ {a b lengths last before : List ℕ} {x near w : ℕ} {labels : List ℕ} (can : CanRelax a b lengths last before x near w labels) where
  pub walked_none : Walked a b lengths last before x near w labels (at last x) w labels
  walked_none = record {
    low = last_most can;
    starts = λ i q. latest_starts (tail a b) x (2 * length a) i (sym (can.linked.last_is x can.here) ∙ q);
    relaxed = relaxed_none can;
  }

  module _ {k w₁ : ℕ} {labels₁ : List ℕ} (u : Walked a b lengths last before x near w labels k w₁ labels₁) (i : ℕ) (q : k ≡ i + 1) where
    in-arcs : i < 2 * length a
    in-arcs = omega (arith, u.low)

    pub walked_step : Step a b before x i labels₁
    walked_step = record {
      other = other_end a b i x (u.starts i q);
      inside = end-in can i in-arcs (u.starts i q);
      falls = low_before can i in-arcs (u.starts i q);
      long = omega (arith, can.long, u.relaxed.size);
    }

    pub walked_more : {y w₂ : ℕ} {labels₂ : List ℕ} → y ≡ tail b a i → Lowered y (near + at lengths (i / 2)) w₁ labels₁ w₂ labels₂
        → Walked a b lengths last before x near w labels (at before i) w₂ labels₂
    walked_more e s = record {
      low = omega (arith, low_before can i in-arcs (u.starts i q), in-arcs);
      starts = λ j p. latest_starts (tail a b) x i j (sym (before_latest can i in-arcs (u.starts i q)) ∙ p);
      relaxed = relaxed_more can i in-arcs (u.starts i q) (rw q at u.relaxed) (rw e at s);
    }
