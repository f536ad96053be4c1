-- The gap of two naturals, and the product lemma: two products against the crossed ones.
use Prim.Native.Nat.{ℕ, ◌+◌, ◌*◌, ◌≤◌, ◌<◌}
use mathlib.Core.Path.{◌≡◌, ap}
use mathlib.Core.Logic.{⊎_elim}
use native.Mathlib.Nat.{mul-le-mul_right}
use native.Mathlib.Omega.{arith}
use Rattle.arithmetic.specs.Steps.Product.{gap, Tight, Agrees}
use Rattle.arithmetic.proofs.Laws.Bools.{case≤, case<}

pub gap_comm : (a b : ℕ) → gap a b ≡ gap b a
gap_comm a b = omega arith

-- the crossed products where a is b + k
over_le : (u v l b k : ℕ) → u ≤ v + l → u * (b + k) + v * b ≤ v * (b + k) + u * b + l * k
over_le u v l b k h = omega (arith, mul-le-mul_right k h)

over_eq : (u v l b k : ℕ) → u ≡ v + l → u * (b + k) + v * b ≡ v * (b + k) + u * b + l * k
over_eq u v l b k h = omega (arith, ap (λ (x : ℕ). x * k) h)

-- the same where b ≤ a
left_le : (u v l a b : ℕ) → b ≤ a → u ≤ v + l → u * a + v * b ≤ v * a + u * b + l * gap a b
left_le u v l a b d h =
    let e : a ≡ b + gap a b = omega arith in
    let t : u * (b + gap a b) + v * b ≤ v * (b + gap a b) + u * b + l * gap a b = over_le u v l b (gap a b) h in
    omega (arith, t, ap (λ (x : ℕ). u * x) e, ap (λ (x : ℕ). v * x) e)

left_eq : (u v l a b : ℕ) → b ≤ a → u ≡ v + l → u * a + v * b ≡ v * a + u * b + l * gap a b
left_eq u v l a b d h =
    let e : a ≡ b + gap a b = omega arith in
    let t : u * (b + gap a b) + v * b ≡ v * (b + gap a b) + u * b + l * gap a b = over_eq u v l b (gap a b) h in
    omega (arith, t, ap (λ (x : ℕ). u * x) e, ap (λ (x : ℕ). v * x) e)

pub product_le : (u v l a b : ℕ) → u ≤ v + l → v ≤ u + l → u * a + v * b ≤ v * a + u * b + l * gap a b
product_le u v l a b h k =
    case≤ b a
    (λ d. left_le u v l a b d h)
    (λ d. omega (arith, left_le v u l b a (omega arith) k, ap (λ (x : ℕ). l * x) (gap_comm a b)))

-- equality is tightness
pub product_tight : (u v l a b : ℕ) → Tight u v l a b → u * a + v * b ≡ v * a + u * b + l * gap a b
product_tight u v l a b t =
    case< b a
    (λ h. left_eq u v l a b (omega arith) (t.0 h))
    (λ h. case< a b
    (λ k. omega (arith, left_eq v u l b a (omega arith) (t.1 k), ap (λ (x : ℕ). l * x) (gap_comm a b)))
    (λ k.
    let e : a ≡ b = omega arith in
    let z : gap a b ≡ 0 = omega arith in
    omega (arith, ap (λ (x : ℕ). u * x) e, ap (λ (x : ℕ). v * x) e, ap (λ (x : ℕ). l * x) z)))

cancel : (x y k : ℕ) → 0 < k → x * k ≡ y * k → x ≡ y
cancel x y k h e =
    case< x y
    (λ l. absurd (omega (arith, mul-le-mul_right k l)))
    (λ l. case< y x (λ m. absurd (omega (arith, mul-le-mul_right k m))) (λ m. omega arith))

over_tight : (u v l b k : ℕ) → 0 < k → u * (b + k) + v * b ≡ v * (b + k) + u * b + l * k → u ≡ v + l
over_tight u v l b k h e = cancel u (v + l) k h (omega arith)

pub tight_product : (u v l a b : ℕ) → u * a + v * b ≡ v * a + u * b + l * gap a b → Tight u v l a b
tight_product u v l a b e = (
  λ h.
      let k : a ≡ b + gap a b = omega arith in
      over_tight u v l b (gap a b) (omega arith) (omega (arith, e, ap (λ (x : ℕ). u * x) k, ap (λ (x : ℕ). v * x) k)),
  λ h.
      let k : b ≡ a + gap a b = omega arith in
      over_tight v u l a (gap a b) (omega arith) (omega (arith, e, ap (λ (x : ℕ). u * x) k, ap (λ (x : ℕ). v * x) k)),
)

pub agrees_tight : (u v l a b : ℕ) → Agrees u v l a b → Tight u v l a b
agrees_tight u v l a b = ⊎_elim (λ h. (λ k. h.1, λ k. absurd (omega arith))) (λ h. (λ k. absurd (omega arith), λ k. h.1))
