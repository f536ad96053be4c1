-- Lent tables: a list as a function, a function as a list, and what a call leaves in a table.
use mathlib.Core.Path.{◌≡◌, refl, sym, ap, ◌∙◌}
use mathlib.Core.List.{List, [], ◌∷◌, ◌++◌, append_assoc, append-nil}
use Prim.Native.Nat.{ℕ, zero, suc, ◌+◌, ◌*◌, ◌≤◌, ◌<◌}
use native.Mathlib.Nat.{mul-le-mul_right}
use native.Mathlib.Numerals.{add-one}
use native.Mathlib.Omega.{arith}
use lib.ListN.{length, get_or, drop, set, length-append, length-drop, get_or-append, drop_of_length-le}
use lib.Seq.{drop-cons, set_at, drop_at, get_or_at, get_or-append-add, ext_get_or}
use Rattle.arithmetic.specs.Table.{at, tab, rows, result, written}
use Rattle.arithmetic.proofs.Laws.Bools.{case≡}

-- ---- laws

-- after a refusal a result is 0, and a table as it was lent
pub result_refused : (k v : ℕ) → (k ≡ 0 → ⊥) → 0 ≡ result k v
result_refused zero v d = absurd (d refl)
result_refused (suc k) v d = refl

pub written_refused : {A : Type 0} (k : ℕ) (answer lent : List A) → (k ≡ 0 → ⊥) → lent ≡ written k answer lent
written_refused zero answer lent d = absurd (d refl)
written_refused (suc k) answer lent d = refl

pub length-tab : {A : Type 0} (m : ℕ) (f : ℕ → A) → length (tab m f) ≡ m
unfolding tab
length-tab zero f = refl
length-tab (suc m) f = rw (length-append, length-tab m f, add-one)

pub tab_none : {A : Type 0} (f : ℕ → A) (d : List A) → d ≡ tab 0 f ++ drop 0 d
unfolding tab
tab_none f d = refl

pub tab_more : {A : Type 0} (i : ℕ) (f : ℕ → A) (d : List A) → i < length d
    → set (tab i f ++ drop i d) i (f i) ≡ tab (i + 1) f ++ drop (i + 1) d
unfolding tab
tab_more i f d h = rw (add-one, drop-cons d i (f i) h, set_at (tab i f) _ _ (f i) i (length-tab i f), append_assoc)

-- the rest of a table that already has f's values completes it
pub tab_rest : (f : ℕ → ℕ) (d : List ℕ) (i j : ℕ) → i + j ≡ length d → ((x : ℕ) → i ≤ x → x < i + j → at d x ≡ f x)
    → tab i f ++ drop i d ≡ tab (i + j) f
unfolding tab
tab_rest f d i zero h e =
    let n : i + 0 ≡ i = omega arith in rw (n, drop_of_length-le d {i = i} (omega arith), append-nil)
tab_rest f d i (suc j) h e =
    let n : i + suc j ≡ suc i + j = omega arith in
    rw (n, drop-cons d i 0 (omega arith), e i (omega arith) (omega arith), ← tab_rest f d (suc i) j (omega arith) (λ x l k. e x (omega arith) (omega arith)), append_assoc)

-- one store of a loop that fills a table from the front
pub tab_store : {A : Type 0} (i : ℕ) (f : ℕ → A) (d out : List A) (x : A) → i < length d → out ≡ tab i f ++ drop i d → x ≡ f i
    → set out i x ≡ tab (i + 1) f ++ drop (i + 1) d
tab_store i f d out x h e g = rw (e, g) (tab_more i f d h)

-- what a table that was filled from the front reads
pub tab-at : {A : Type 0} (m : ℕ) (f : ℕ → A) (d : A) (i : ℕ) → i < m → get_or (tab m f) i d ≡ f i
unfolding tab
tab-at zero f d i l = absurd (omega arith)
tab-at (suc m) f d i l =
    case≡ i m
    (λ e. rw e (get_or_at (tab m f) (f m) [] d m (length-tab m f)))
    (λ ne. get_or-append (tab m f) (f m ∷ []) d i (rw (length-tab m f) (omega arith)) ∙ tab-at m f d i (omega arith))

pub tab_ext : {A : Type 0} (m : ℕ) (f g : ℕ → A) → ((i : ℕ) → i < m → f i ≡ g i) → tab m f ≡ tab m g
unfolding tab
tab_ext zero f g h = refl
tab_ext (suc m) f g h = rw (tab_ext m f g (λ i l. h i (omega arith)), h m (omega arith))

-- a list is the table of its own numbers
pub tab_is : (n : ℕ) (f : ℕ → ℕ) (l : List ℕ) → length l ≡ n → ((i : ℕ) → i < n → f i ≡ at l i) → tab n f ≡ l
tab_is n f l e h =
    ext_get_or 0 (tab n f) l (length-tab n f ∙ sym e)
    (λ i b. let k : i < n = omega (arith, length-tab n f) in tab-at n f 0 i k ∙ h i k)

-- a table with f written over its front: what it reads there, how long it is, and its rest
module _ {A : Type 0} (n : ℕ) (f : ℕ → A) (lent : List A) where
  pub front_at : (d : A) (x : ℕ) → x < n → get_or (tab n f ++ drop n lent) x d ≡ f x
  front_at d x l = get_or-append (tab n f) (drop n lent) d x (rw (length-tab n f) l) ∙ tab-at n f d x l

  pub front_length : n ≤ length lent → length (tab n f ++ drop n lent) ≡ length lent
  front_length h = rw (length-append, length-tab n f, length-drop) (omega arith)

  pub front_rest : drop n (tab n f ++ drop n lent) ≡ drop n lent
  front_rest = drop_at (tab n f) (drop n lent) n (length-tab n f)

-- ---- rows

-- a row ends before a later one begins
pub row_below : (n i x : ℕ) → i < x → i * n + n ≤ x * n
row_below n i x h = omega (arith, mul-le-mul_right n h)

pub cell_below : (n i j : ℕ) → i < n → j < n → i * n + j < n * n
cell_below n i j h k = omega (arith, row_below n i n h)

pub length-rows : {A : Type 0} (n k : ℕ) (f : ℕ → ℕ → A) → length (rows n k f) ≡ k * n
unfolding rows
length-rows n zero f = omega arith
length-rows n (suc k) f = rw (length-append, length-rows n k f, length-tab n (f k)) (omega arith)

pub rows_at : {A : Type 0} (n k : ℕ) (f : ℕ → ℕ → A) (d : A) (i j : ℕ) → i < k → j < n → get_or (rows n k f) (i * n + j) d ≡ f i j
unfolding rows
rows_at n zero f d i j h l = absurd (omega arith)
rows_at n (suc k) f d i j h l =
    case≡ i k
    (λ e. rw e (ap (λ (x : ℕ). get_or (rows n k f ++ tab n (f k)) (x + j) d) (sym (length-rows n k f))
    ∙ get_or-append-add (rows n k f) (tab n (f k)) j d ∙ tab-at n (f k) d j l))
    (λ ne.
    let g : i < k = omega arith in
    get_or-append (rows n k f) (tab n (f k)) d (i * n + j) (rw (length-rows n k f) (omega (arith, row_below n i k g)))
    ∙ rows_at n k f d i j g l)

pub rows_ext : {A : Type 0} (n k : ℕ) (f g : ℕ → ℕ → A) → ((i j : ℕ) → i < k → j < n → f i j ≡ g i j) → rows n k f ≡ rows n k g
unfolding rows
rows_ext n zero f g h = refl
rows_ext n (suc k) f g h =
    rw (rows_ext n k f g (λ i j l. h i j (omega arith)), tab_ext n (f k) (g k) (λ j l. h k j (omega arith) l))
