-- The listing's lines as their writers make them: a line piece by piece, a plan by its next entry; and how long each piece can be.
use mathlib.Core.Path.{◌≡◌, refl, ◌∙◌}
use mathlib.Core.List.{List, [], ◌∷◌, ◌++◌}
use Prim.Native.Nat.{ℕ, zero, suc, ◌+◌, ◌-◌, ◌*◌, ◌^◌, ◌≤◌, ◌<◌}
use native.Mathlib.Numerals.{add-one}
use native.Mathlib.Omega.{arith}
use lib.ListN.{length, take, drop, length-append, length-drop}
use lib.Seq.{length-take-le, get_or-take, get_or-drop}
use borrow.Author.Tests.{lt-ltb}
use Rattle.arithmetic.specs.Table.{at}
use Rattle.arithmetic.specs.Steps.Table.{cell}
use Rattle.decimal_text.specs.Decimal.{decimal}
use Rattle.decimal_text.specs.Steps.Wrote.{Wrote}
use Rattle.decimal_text.proofs.Laws.Decimal.{length-decimal}
use Rattle.decimal_text.proofs.Laws.Wrote.{wrote_none, wrote_length, wrote_then}
use Rattle.listing_lines.specs.Lines.{line, entry_line, row_lines, plan_lines}

-- ---- lines
pub length-line : (word : List ℕ) (x : ℕ) → length (line word x) ≡ length word + length (decimal x) + 2
length-line word x = rw (length-append, length-append) (omega arith)

-- a line has at most 22 bytes behind its word
pub line_most : (word : List ℕ) (x : ℕ) → x < 2 ^ 64 → length (line word x) ≤ length word + 22
line_most word x h = omega (arith, length-line word x, length-decimal 19 x (omega arith))

entry_some : (i j v : ℕ) → (v ≡ 0 → ⊥) → entry_line i j v ≡ decimal i ++ line (32 ∷ decimal j) v
unfolding entry_line
entry_some i j v h = rw (lt-ltb 0 v (omega arith))

-- a vertex has at most 2 digits, an amount 10
pub two_places : (x : ℕ) → x < 64 → length (decimal x) ≤ 2
two_places x h = length-decimal 1 x (omega arith)

pub ten_digits : (x : ℕ) → x < 2 ^ 32 → length (decimal x) ≤ 10
ten_digits x h = length-decimal 9 x (omega arith)

pub line_wrote : (from x : ℕ) (word l : List ℕ) → from + length (line word x) ≤ length l → {a b r : ℕ} {m o q : List ℕ}
    → Wrote from word l m a → Wrote a (32 ∷ decimal x) m o b → Wrote b (10 ∷ []) o q r → Wrote from (line word x) l q r
line_wrote from x word l room u v w =
    let k = length-line word x in
    let h = u.next_is in
    let e = wrote_length (omega arith) u in
    wrote_then (omega arith) u (wrote_then (omega (arith, v.next_is)) v w)

-- the line of an entry: none, or one that is written number by number
pub entry_none : (from i j v : ℕ) (l : List ℕ) → v ≡ 0 → (from ≤ from + 17) × Wrote from (entry_line i j v) l l from
unfolding entry_line
entry_none from i j v l e = (omega arith, rw e (wrote_none from l))

pub entry_wrote : (from i j v : ℕ) (l : List ℕ) → (v ≡ 0 → ⊥) → i < 64 → j < 64 → v < 2 ^ 32 → from + 17 ≤ length l
    → {a b d r : ℕ} {m o p q : List ℕ}
    → Wrote from (decimal i) l m a → Wrote a (32 ∷ decimal j) m o b → Wrote b (32 ∷ decimal v) o p d → Wrote d (10 ∷ []) p q r
    → (r ≤ from + 17) × Wrote from (entry_line i j v) l q r
entry_wrote from i j v l h hi hj hv room {a} {m = m} s t u w =
    let x = two_places i hi in
    let y = two_places j hj in
    let z = ten_digits v hv in
    let g = s.next_is in
    let e = wrote_length (omega arith) s in
    let f = length-line (32 ∷ decimal j) v in
    let whole = wrote_then (omega arith) s (line_wrote a v (32 ∷ decimal j) m (omega arith) t u w) in
    (omega (arith, whole.next_is, length-append (decimal i) (line (32 ∷ decimal j) v)), rw (entry_some i j v h) whole)

-- ---- the plan
pub row_none : (f : ℕ → ℕ) (i from : ℕ) (l : List ℕ) → Wrote from (row_lines f i 0) l l from
unfolding row_lines
row_none f i from l = wrote_none from l

pub row_more : (f : ℕ → ℕ) (i j from : ℕ) (l : List ℕ) {at r : ℕ} {m o : List ℕ} → at ≤ length l → Wrote from (row_lines f i j) l m at
    → Wrote at (entry_line i j (f j)) m o r → Wrote from (row_lines f i (j + 1)) l o r
unfolding row_lines
row_more f i j from l h v w = rw (add-one j) (wrote_then h v w)

pub row_end : (f : ℕ → ℕ) (i n j from at : ℕ) {l m : List ℕ} → j ≤ n → n ≤ j → at ≤ from + 17 * j
    → Wrote from (row_lines f i j) l m at → (at ≤ from + 17 * n) × Wrote from (row_lines f i n) l m at
row_end f i n j from at h g k w =
    let e : j ≡ n = omega arith in
    (omega arith, rw e at w)

pub rows_none : (t : ℕ → ℕ → ℕ) (n from : ℕ) (l : List ℕ) → Wrote from (plan_lines t n 0) l l from
unfolding plan_lines
rows_none t n from l = wrote_none from l

pub rows_more : (t : ℕ → ℕ → ℕ) (n i from : ℕ) (l : List ℕ) {at r : ℕ} {m o : List ℕ} → at ≤ length l → Wrote from (plan_lines t n i) l m at
    → Wrote at (row_lines (t i) i n) m o r → Wrote from (plan_lines t n (i + 1)) l o r
unfolding plan_lines
rows_more t n i from l h v w = rw (add-one i) (wrote_then h v w)

row_ext : (f g : ℕ → ℕ) (i m : ℕ) → ((j : ℕ) → j < m → f j ≡ g j) → row_lines f i m ≡ row_lines g i m
unfolding row_lines
row_ext f g i zero h = refl
row_ext f g i (suc m) h = rw (row_ext f g i m (λ j l. h j (omega arith)), h m (omega arith))

-- a row as the part of the table that was handed on
pub row_part : (n i : ℕ) (plan : List ℕ) → i * n + n ≤ length plan → length (take (i * n + n - i * n) (drop (i * n) plan)) ≡ n
row_part n i plan h = length-take-le _ _ (omega (arith, length-drop (i * n) plan)) ∙ omega arith

pub row_handed : (n i : ℕ) (plan : List ℕ) {k : ℕ} → k ≡ n → row_lines (at (take (i * n + n - i * n) (drop (i * n) plan))) i k ≡ row_lines (cell n plan i) i n
row_handed n i plan e =
    rw e (row_ext _ _ i n (λ j l. get_or-take (i * n + n - i * n) (drop (i * n) plan) j 0 (omega arith) ∙ get_or-drop (i * n) plan j 0))

-- the plan's lines by its entries
pub plan_ext : (t s : ℕ → ℕ → ℕ) (n k : ℕ) → ((i j : ℕ) → i < k → j < n → t i j ≡ s i j) → plan_lines t n k ≡ plan_lines s n k
unfolding plan_lines
plan_ext t s n zero h = refl
plan_ext t s n (suc k) h =
    rw (plan_ext t s n k (λ i j l. h i j (omega arith)), row_ext (t k) (s k) k n (λ j l. h k j (omega arith) l))
