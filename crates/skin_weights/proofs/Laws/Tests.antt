-- Tests of all entries of a list of floats.
use Rattle.std.specs.Prelude.{◌↔◌, IsTrue, EachIndex}
use Rattle.std.proofs.Common.{◌≡◌, ℕ, ◌<◌, Bool, true, false, List, length, get_or, refl, sym, ap, ◌∙◌, true≢false}
use Rattle.std.proofs.lemmas.List.{get_or_default}
use Rattle.arithmetic.specs.Bools.{all}
use Rattle.arithmetic.proofs.Laws.Bools.{is_false, all_intro, all-at}

-- `all` of the library, as `all_entries` of arithmetic has it of numbers
pub all_items : {A : Type 0} (b : Bool) (l : List A) (p : ℕ → Bool) → (IsTrue b ↔ EachIndex l (λ k. IsTrue (p k))) → b ≡ all (length l) p
all_items true l p h = sym (all_intro (length l) p (h.0 refl))
all_items false l p h = sym (is_false (all (length l) p) (λ e. true≢false (sym (h.1 (all-at (length l) p e)))))

-- an item of a list whose entries all pass a test
pub item_passes : {A : Type 0} (l : List A) (d : A) (p : A → Bool) (x : A) (k : ℕ) → all (length l) (λ i. p (get_or l i d)) ≡ true → k < length l
    → x ≡ get_or l k x → p x ≡ true
item_passes l d p x k h m e = ap p (e ∙ get_or_default l k x d m) ∙ all-at (length l) (λ i. p (get_or l i d)) h k m
