-- A word without one of its vertices.
use mathlib.Core.Path.{◌≡◌, refl, ap, ◌∙◌}
use mathlib.Core.Bool.{true, false, not, ◌&&◌}
use Prim.Native.Nat.{ℕ, zero, suc, ◌+◌, ◌-◌, ◌*◌, ◌/◌, ◌%◌, ◌≤◌, ◌<◌, ◌^◌, min}
use native.Mathlib.Nat.{mod-lt, lt_of_lt_of_le, pow-suc}
use native.Mathlib.Omega.{arith}
use lib.Bits.{bit_and, and_step, and_self}
use lib.Count.{count_trailing_zeros, under}
use lib.Dec.{eqb, lit<}
use lib.Pow.{pow_pos, pow_mono}
use borrow.Author.Tests.{ne_eqb}
use Rattle.arithmetic.specs.Mask.{mask}
use Rattle.arithmetic.specs.Steps.Mask.{bit}
use Rattle.arithmetic.proofs.Laws.Bools.{case, eqb_self}
use Rattle.arithmetic.proofs.Laws.Mask.{mask_lt, bit_mask, mask_bits, mask-take, shl_one}
use Rattle.vertex_set.specs.Lowest.{lowest}
use Rattle.vertex_set.proofs.Laws.Lowest.{lowest-found, zeros_lowest}

-- w - v is w without its vertex x
pub record Without (n w x v : ℕ) : Type 0 where
  pub has : bit w x ≡ true
  pub some : 0 < v
  pub part : v ≤ w
  pub word : w - v ≡ mask n (bit (w - v))
  pub gone : bit (w - v) x ≡ false
  pub kept : (y : ℕ) → y < n → (y ≡ x → ⊥) → bit (w - v) y ≡ bit w y

pub without_vertex : (n w x v : ℕ) → n ≤ 64 → w ≡ mask n (bit w) → x < n → bit w x ≡ true → v ≡ 2 ^ x → Without n w x v
without_vertex n w x v few e l has power = record {
  has = has;
  some = omega (arith, power, pow_pos x);
  part = omega (arith, e, taken, power);
  word = mask_bits n _ _ rest;
  gone = bits x l ∙ rw (has, eqb_self x);
  kept = λ y k d. bits y k ∙ rw (ne_eqb y x d) (case (bit w y) (λ z. cc) (λ z. cc));
}
  where
    taken : mask n (bit w) ≡ mask n (λ y. bit w y && not (eqb y x)) + 2 ^ x
    taken = mask-take n (bit w) x l has

    rest : w - v ≡ mask n (λ y. bit w y && not (eqb y x))
    rest = omega (arith, e, taken, power)

    bits : (y : ℕ) → y < n → bit (w - v) y ≡ bit w y && not (eqb y x)
    bits y k = ap (λ (z : ℕ). bit z y) rest ∙ bit_mask n (λ y. bit w y && not (eqb y x)) y k

-- its lowest
pub without_first : (n w x v : ℕ) → n ≤ 64 → w ≡ mask n (bit w) → (x ≡ lowest (bit w) n 0) × (x < n) → v ≡ 2 ^ x → Without n w x v
without_first n w x v few e (first, l) = without_vertex n w x v few e l (rw first (lowest-found (bit w) n 0 (omega (arith, first))))

-- the same, as code shifts it
pub without-lowest : (n w x : ℕ) → n ≤ 64 → w ≡ mask n (bit w) → (x ≡ lowest (bit w) n 0) × (x < n) → Without n w x ((1 * 2 ^ x) % 2 ^ 64)
without-lowest n w x few e first = without_first n w x _ few e first (shl_one x (omega (arith, first.1)))

-- w and w - 1 have in common what is above the lowest vertex
clear_lowest : (k w : ℕ) → 0 < w → w < 2 ^ k → bit_and w (w - 1) + 2 ^ count_trailing_zeros k w ≡ w
unfolding count_trailing_zeros
clear_lowest zero w h l = absurd (omega arith)
clear_lowest (suc k) w h l = go (w % 2) (mod-lt w (lit< tt)) refl (clear_lowest k (w / 2))
  where
    halves : (b r s : ℕ) → (w - 1) / 2 ≡ b → w % 2 ≡ r → (w - 1) % 2 ≡ s → bit_and w (w - 1) ≡ bit_and (w / 2) b * 2 + min r s
    halves b r s p q t = and_step w (w - 1) ∙ rw (p, q, t)

    go : (r : ℕ) → r < 2 → w % 2 ≡ r → (0 < w / 2 → w / 2 < 2 ^ k → bit_and (w / 2) (w / 2 - 1) + 2 ^ count_trailing_zeros k (w / 2) ≡ w / 2)
        → bit_and w (w - 1) + 2 ^ under r (count_trailing_zeros k (w / 2)) ≡ w
    go zero i e rest =
        let u = halves (w / 2 - 1) 0 1 (omega arith) e (omega arith) in
        omega (arith, u, rest (omega arith) (omega (arith, pow-suc 2 k)), pow-suc 2 (count_trailing_zeros k (w / 2)))
    go (suc zero) i e rest = let u = halves (w / 2) 1 0 (omega arith) e (omega arith) in omega (arith, u, and_self (w / 2))
    go (suc (suc r)) i e rest = absurd (omega arith)

-- so one step of code takes the lowest vertex out
pub cleared : (n w : ℕ) → n ≤ 64 → w ≡ mask n (bit w) → (w ≡ 0 → ⊥) → bit_and w (w - 1) ≡ w - 2 ^ lowest (bit w) n 0
cleared n w few e d =
    let l : w < 2 ^ 64 = lt_of_lt_of_le (rw (← e) at (mask_lt n (bit w))) (pow_mono few) in
    let c : bit_and w (w - 1) + 2 ^ lowest (bit w) n 0 ≡ w = rw (zeros_lowest n w few e d) at (clear_lowest 64 w (omega arith) l) in
    omega arith
