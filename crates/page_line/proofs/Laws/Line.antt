-- The line of a vertex as its writers make it, piece by piece; and the columns of each piece.
use mathlib.Core.Path.{◌≡◌, refl, ◌∙◌}
use mathlib.Core.List.{List, [], ◌∷◌, ◌++◌}
use Prim.Native.Nat.{ℕ, ◌+◌, ◌-◌, ◌/◌, ◌%◌, ◌≤◌, ◌<◌}
use native.Mathlib.Omega.{arith}
use lib.IntN.{ℤ}
use lib.ListN.{length, take, drop, length-append, length-drop}
use lib.Seq.{length-take-le}
use borrow.Rule.Slice.PartMut.{put_mid}
use Rattle.std.specs.Prelude.{replicate}
use Rattle.arithmetic.proofs.Laws.Slices.{replicate_tab}
use Rattle.arithmetic.proofs.Laws.Table.{length-tab}
use Rattle.decimal_text.specs.Decimal.{signed_decimal}
use Rattle.decimal_text.specs.Steps.Wrote.{Wrote}
use Rattle.decimal_text.proofs.Laws.Wrote.{wrote_length, wrote_then, word_wrote}
use Rattle.page_line.specs.Line.{spaces, two_digits, up_to, right_aligned, vertex_line}

-- ---- spaces
pub length-spaces : (k : ℕ) → length (spaces k) ≡ k
unfolding spaces
length-spaces k = length-tab k (λ _. 32)

-- a part of the buffer was filled
pub spaces_wrote : (from n : ℕ) (l : List ℕ) {m : List ℕ} → from + n ≤ length l → m ≡ replicate (length (take (from + n - from) (drop from l))) 32
    → Wrote from (spaces n) l (put_mid from (from + n - from) l m) (from + n)
unfolding spaces
spaces_wrote from n l {m} h e =
    let k : length (take (from + n - from) (drop from l)) ≡ n = length-take-le _ _ (omega (arith, length-drop from l)) ∙ omega arith in
    rw (e, k, replicate_tab n 32) (rw (length-spaces n) at (word_wrote from (spaces n) l))

-- ---- columns
length_two : (v : ℕ) → length (two_digits v) ≡ 2
unfolding two_digits
length_two v = refl

-- a vertex stands in 68 columns,
pub vertex_columns : (d v : ℕ) → d < 64 → length (up_to 68 (spaces d ++ two_digits v)) ≡ 68
unfolding up_to
vertex_columns d v h =
    let e = length-append (spaces d) (two_digits v) in
    rw length-append (omega (arith, e, length-spaces d, length_two v, length-spaces (68 - length (spaces d ++ two_digits v))))

-- and a figure of at most eleven bytes in eleven
pub figure_columns : (z : ℤ) → length (signed_decimal z) ≤ 11 → length (right_aligned 11 (signed_decimal z)) ≡ 11
unfolding right_aligned
figure_columns z h = rw length-append (omega (arith, length-spaces (11 - length (signed_decimal z))))

-- so a line has 96 bytes
pub length-line : (d v : ℕ) (i u : ℤ) → d < 64 → length (signed_decimal i) ≤ 11 → length (signed_decimal u) ≤ 11 → length (vertex_line d v i u) ≡ 96
unfolding vertex_line
length-line d v i u h hi hu =
    rw (length-append, length-append, length-append, length-append)
    (omega (arith, vertex_columns d v h, figure_columns i hi, figure_columns u hu, length-spaces 5))

-- ---- pieces
module _ (d v : ℕ) {from : ℕ} {l : List ℕ} (h : d < 64) (room : from + 68 ≤ length l) {a b e r : ℕ} {m o p q : List ℕ} where
  pub vertex_wrote : Wrote from (spaces d) l m a → Wrote a ((48 + v / 10) ∷ []) m o b → Wrote b ((48 + v % 10) ∷ []) o p e → Wrote e (spaces (66 - d)) p q r
      → (r ≡ from + 68) × Wrote from (up_to 68 (spaces d ++ two_digits v)) l q r
  unfolding up_to two_digits
  vertex_wrote s t u w =
      let k = length-spaces d in
      let next = s.next_is in
      let two : Wrote from (spaces d ++ two_digits v) l p e
      = wrote_then (omega arith) s (wrote_then (omega (arith, t.next_is, wrote_length (omega arith) s)) t u) in
      let long = length-append (spaces d) (two_digits v) in
      let same : 66 - d ≡ 68 - length (spaces d ++ two_digits v) = omega (arith, length_two v) in
      let whole = wrote_then (omega (arith, two.next_is, length_two v)) two (rw same at w) in
      (omega (arith, whole.next_is, vertex_columns d v h), whole)

module _ (z : ℤ) (h : length (signed_decimal z) ≤ 11) {from k : ℕ} (e : k ≡ length (signed_decimal z)) {l : List ℕ} (room : from + 11 ≤ length l)
    {a : ℕ} {m : List ℕ} (s : Wrote from (spaces (11 - k)) l m a) where
  pub figure-room : a + length (signed_decimal z) ≤ length m
  figure-room =
      let next = s.next_is in
      let long = length-spaces (11 - k) in
      omega (arith, wrote_length (omega arith) s)

  pub figure_wrote : {r : ℕ} {o : List ℕ} → Wrote a (signed_decimal z) m o r → (r ≡ from + 11) × Wrote from (right_aligned 11 (signed_decimal z)) l o r
  unfolding right_aligned
  figure_wrote {r} {o} w =
      let whole : Wrote from (right_aligned 11 (signed_decimal z)) l o r = rw (← e) (wrote_then (omega (arith, s.next_is, length-spaces (11 - k))) s w) in
      (omega (arith, whole.next_is, figure_columns z h), whole)

module _ (d v : ℕ) (i u : ℤ) (h : d < 64) (hi : length (signed_decimal i) ≤ 11) (hu : length (signed_decimal u) ≤ 11)
    {from : ℕ} {l : List ℕ} (room : from + 96 ≤ length l) where
  pub line_wrote : {a b c e r : ℕ} {m o p q t : List ℕ} → Wrote from (up_to 68 (spaces d ++ two_digits v)) l m a
      → Wrote a (right_aligned 11 (signed_decimal i)) m o b → Wrote b (right_aligned 11 (signed_decimal u)) o p c
      → Wrote c (spaces 5) p q e → Wrote e (10 ∷ []) q t r → Wrote from (vertex_line d v i u) l t r
  unfolding vertex_line
  line_wrote {a} {b} {c} {e} {r} {m} {o} {p} {q} w x y z n =
      let k = vertex_columns d v h in
      let ki = figure_columns i hi in
      let ku = figure_columns u hu in
      let k5 = length-spaces 5 in
      let na = w.next_is in
      let nb = x.next_is in
      let nc = y.next_is in
      let ne = z.next_is in
      let lm : length m ≡ length l = wrote_length (omega arith) w in
      let lo : length o ≡ length m = wrote_length (omega arith) x in
      let lp : length p ≡ length o = wrote_length (omega arith) y in
      wrote_then (omega arith) w (wrote_then (omega arith) x (wrote_then (omega arith) y (wrote_then (omega arith) z n)))
