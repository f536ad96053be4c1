-- The vertices within reach of a start: the word from a table of distances, and what it says bit by bit.
use Prim.Native.Nat.{ℕ, ◌/◌, ◌%◌, ◌^◌, ◌<◌}
use mathlib.Core.Path.{◌≡◌, ap, ◌∙◌}
use mathlib.Core.Bool.{Bool, true, false, ◌&&◌}
use mathlib.Core.List.{List}
use native.Mathlib.Nat.{mod-lt, div-eq_of_lt, lt_of_lt_of_le}
use native.Mathlib.Omega.{arith}
use lib.Dec.{eqb, ltb, leb, lit<}
use lib.Pow.{pow_mono}
use borrow.Author.Tests.{le-ltb, lt-ltb, eqb-true, eqb-false}
use Rattle.arithmetic.specs.Mask.{mask}
use Rattle.arithmetic.specs.Sum.{pick}
use Rattle.arithmetic.specs.Table.{at}
use Rattle.arithmetic.proofs.Laws.Bools.{case<}
use Rattle.arithmetic.proofs.Laws.Mask.{mask_ext, mask_lt, bit_mask}
use Rattle.arithmetic.proofs.Laws.Table.{result_refused}
use Rattle.graph.specs.Graph.{Graph}
use Rattle.graph.specs.Distance.{distance}
use Rattle.distance_queries.specs.Within.{within_refusal, word_within, FoundWithin}

-- ---- the call
pub word_found : (g : Graph) (start reach : ℕ) (table : List ℕ) → ((v : ℕ) → v < g.n → at table v ≡ distance g start v)
    → (w : ℕ) → w ≡ mask g.n (λ v. leb (at table v) reach) → w ≡ word_within g start reach
unfolding word_within
word_found g start reach table each w e =
    e ∙ mask_ext g.n (λ v. leb (at table v) reach) (λ v. leb (distance g start v) reach) (λ v l. ap (λ (d : ℕ). leb d reach) (each v l))

pub within_refused : (g : Graph) (start reach k : ℕ) → k ≡ within_refusal g start → (k ≡ 0 → ⊥) → FoundWithin g start reach k 0
within_refused g start reach k e d = record { refusal = e; mask_is = result_refused k _ d }

-- bit v of a mask, as a number: none from n on
mask_digit : (n : ℕ) (f : ℕ → Bool) (v : ℕ) → mask n f / 2 ^ v % 2 ≡ pick (ltb v n && f v) 1
mask_digit n f v =
    case< v n
    (λ l. rw (lt-ltb v n l) (digit (mask n f / 2 ^ v % 2) (f v) (mod-lt _ (lit< tt)) (bit_mask n f v l)))
    (λ l. rw (le-ltb v n l, div-eq_of_lt (lt_of_lt_of_le (mask_lt n f) (pow_mono l))))
  where
    digit : (r : ℕ) (t : Bool) → r < 2 → eqb r 1 ≡ t → r ≡ pick t 1
    digit r true h e = eqb-true r 1 e
    digit r false h e = let d = eqb-false r 1 e in omega arith

-- "the word of all vertices at distance at most the reach", bit by bit: bit v is set exactly where v is a vertex at such a distance
pub within_says : (g : Graph) (start reach k word : ℕ) → FoundWithin g start reach k word → k ≡ 0
    → (v : ℕ) → word / 2 ^ v % 2 ≡ pick (ltb v g.n && leb (distance g start v) reach) 1
unfolding word_within
within_says g start reach k word w z v =
    let e : word ≡ mask g.n (λ v. leb (distance g start v) reach) = w.mask_is ∙ rw z in
    rw e (mask_digit g.n (λ v. leb (distance g start v) reach) v)
