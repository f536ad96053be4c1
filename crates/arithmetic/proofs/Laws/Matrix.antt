-- An n × n table that fills the first places of a lent list, and what a store makes of it.
use mathlib.Core.Path.{◌≡◌, refl, sym, ap, ◌∙◌}
use mathlib.Core.List.{List, ◌++◌}
use Prim.Native.Nat.{ℕ, zero, suc, ◌+◌, ◌*◌, ◌≤◌, ◌<◌}
use native.Mathlib.Omega.{arith}
use lib.ListN.{length, drop, take, set, length-append, length-drop, length-set, take-append-drop, get_or-append}
use lib.Seq.{drop_at, drop-set-lt, ext_get_or, get_or-drop, get_or-set_other, get_or-set_same, get_or-take, length-take-le, take-add}
use Rattle.arithmetic.specs.Table.{tab, rows, matrix}
use Rattle.arithmetic.specs.Steps.Table.{cell}
use Rattle.arithmetic.specs.Steps.Matrix.{filled}
use Rattle.arithmetic.proofs.Laws.Bools.{case≡, case<}
use Rattle.arithmetic.proofs.Laws.Table.{length-tab, tab-at, row_below, cell_below, length-rows, rows_at, rows_ext}

-- a list that reads as f in its first k rows begins with f's rows
rows_read : (n k : ℕ) (f : ℕ → ℕ → ℕ) (l : List ℕ) → k * n ≤ length l → ((i j : ℕ) → i < k → j < n → cell n l i j ≡ f i j)
    → take (k * n) l ≡ rows n k f
unfolding rows
rows_read n zero f l room h = let e : 0 * n ≡ 0 = omega arith in rw e
rows_read n (suc k) f l room h =
    let e : suc k * n ≡ k * n + n = omega arith in
    rw (e, take-add (k * n) n l, rows_read n k f l (omega arith) (λ i j p. h i j (omega arith)), row)
  where
    row : take n (drop (k * n) l) ≡ tab n (f k)
    row =
        let e : n ≤ length (drop (k * n) l) = rw (length-drop (k * n) l) (omega arith) in
        ext_get_or 0 _ _
        (length-take-le n (drop (k * n) l) e ∙ sym (length-tab n (f k)))
        (λ j p.
        let q : j < n = omega (arith, length-take-le n (drop (k * n) l) e) in
        get_or-take n (drop (k * n) l) j 0 q ∙ get_or-drop (k * n) l j 0 ∙ h k j (omega arith) q ∙ sym (tab-at n (f k) 0 j q))

-- different cells stand apart
cells_apart : (n i j x y : ℕ) → j < n → y < n → (x ≡ i → y ≡ j → ⊥) → x * n + y ≡ i * n + j → ⊥
cells_apart n i j x y hj hy h e =
    case< i x
    (λ p. omega (arith, row_below n i x p))
    (λ p. case< x i
    (λ q. omega (arith, row_below n x i q))
    (λ q. let s : x ≡ i = omega arith in h s (omega (arith, ap (λ (z : ℕ). z * n) s))))

module _ (n : ℕ) (f : ℕ → ℕ → ℕ) (lent : List ℕ) where
  pub filled_at : (i j : ℕ) → i < n → j < n → cell n (filled n f lent) i j ≡ f i j
  filled_at i j hi hj =
      get_or-append (matrix n f) (drop (n * n) lent) 0 (i * n + j) (rw (length-rows n n f) (cell_below n i j hi hj))
      ∙ rows_at n n f 0 i j hi hj

  pub filled_ext : (h : ℕ → ℕ → ℕ) → ((i j : ℕ) → i < n → j < n → f i j ≡ h i j) → filled n f lent ≡ filled n h lent
  filled_ext h e = rw (rows_ext n n f h e)

  -- what is not the table stays
  filled_rest : drop (n * n) (filled n f lent) ≡ drop (n * n) lent
  filled_rest = drop_at (matrix n f) (drop (n * n) lent) (n * n) (length-rows n n f)

  -- a table over a table
  pub filled_over : (h : ℕ → ℕ → ℕ) → filled n h (filled n f lent) ≡ filled n h lent
  filled_over h = ap (λ (z : List ℕ). matrix n h ++ z) filled_rest

  module _ (room : n * n ≤ length lent) where
    pub filled-length : length (filled n f lent) ≡ length lent
    filled-length = rw (length-append, length-rows n n f, length-drop) (omega arith)

    -- a list that reads as f, with the rest as lent
    pub filled_by : (l : List ℕ) → length l ≡ length lent → drop (n * n) l ≡ drop (n * n) lent
        → ((i j : ℕ) → i < n → j < n → cell n l i j ≡ f i j) → l ≡ filled n f lent
    filled_by l e r h =
        sym (take-append-drop (n * n) l) ∙ rw (rows_read n n f l (omega arith) h, r)

-- one store: h is f but for v at row i, column j
pub filled_store : (n : ℕ) (f h : ℕ → ℕ → ℕ) (lent l : List ℕ) (i j v : ℕ) → n * n ≤ length lent → i < n → j < n → l ≡ filled n f lent
    → h i j ≡ v → ((x y : ℕ) → x < n → y < n → (x ≡ i → y ≡ j → ⊥) → h x y ≡ f x y) → set l (i * n + j) v ≡ filled n h lent
filled_store n f h lent l i j v room hi hj e here away =
    filled_by n h lent room (set l (i * n + j) v) (length-set l (i * n + j) v ∙ long)
    (drop-set-lt (n * n) l (i * n + j) v (cell_below n i j hi hj) ∙ rw e (filled_rest n f lent))
    (λ x y hx hy. case≡ x i (λ p. case≡ y j (λ q. rw (p, q) same) (λ q. other x y hx hy (λ _. q))) (λ p. other x y hx hy (λ z. absurd (p z))))
  where
    long : length l ≡ length lent
    long = rw e (filled-length n f lent room)

    same : cell n (set l (i * n + j) v) i j ≡ h i j
    same = get_or-set_same l (i * n + j) v 0 (omega (arith, long, cell_below n i j hi hj)) ∙ sym here

    other : (x y : ℕ) → x < n → y < n → (x ≡ i → y ≡ j → ⊥) → cell n (set l (i * n + j) v) x y ≡ h x y
    other x y hx hy d =
        get_or-set_other l (i * n + j) (x * n + y) v 0 (cells_apart n i j x y hj hy d)
        ∙ rw e (filled_at n f lent x y hx hy) ∙ sym (away x y hx hy d)

-- what a list already reads
pub filled_self : (n : ℕ) (f : ℕ → ℕ → ℕ) (l : List ℕ) → n * n ≤ length l → ((i j : ℕ) → i < n → j < n → cell n l i j ≡ f i j)
    → l ≡ filled n f l
filled_self n f l room h = filled_by n f l room l refl refl h
