-- What is told of an answer.
use Prim.Native.Nat.{ℕ, zero, suc}
use mathlib.Core.Path.{◌≡◌, refl, sym, ◌∙◌}
use mathlib.Core.Bool.{Bool}
use mathlib.Core.List.{List}
use Rattle.std.specs.Prelude.{Result, IfOk}
use Rattle.std.specs.declared.result.Result.TheVariants.{Ok, Err}
use Rattle.refusals.specs.declared.Refusal.{Refusal}
use Rattle.refusals.specs.Refusals.{number_of}
use borrow.Author.Tests.{le-ltb}
use Rattle.spanning_tree.specs.declared.tree.Tree.{Tree}
use Rattle.image_answer.specs.declared.Answer.{Answer}
use Rattle.arithmetic.specs.Table.{at, written}
use Rattle.arithmetic.proofs.Laws.Bools.{case<}
use Rattle.arithmetic.proofs.Laws.Table.{tab_ext}
use Rattle.spanning_tree.specs.TreeValue.{parents_held}
use Rattle.duality.proofs.Laws.Agree.{Same}
use Rattle.image_answer.specs.Steps.Answered.{success}

-- ---- what is told and written counts only after a success
pub told_same : (k : ℕ) (o : Result Answer Refusal) {a b : Answer} → number_of o ≡ k → (k ≡ 0 → a ≡ b) → IfOk o (λ r. r ≡ a) → IfOk o (λ r. r ≡ b)
told_same k (Ok r) e h t = t ∙ h (sym e)
told_same k (Err f) e h t = tt

pub written_same : {A : Type 0} (k : ℕ) {x y : List A} (l : List A) → (k ≡ 0 → x ≡ y) → written k x l ≡ written k y l
written_same zero l h = rw (h refl)
written_same (suc k) l h = refl

-- a tree holds what a table of parents reads below n
held_same : (n : ℕ) (l m : List ℕ) → Same n (at l) (at m) → parents_held n l ≡ parents_held n m
held_same n l m h =
    tab_ext 64 _ _ (λ x _. case< x n (λ k. rw (h x k)) (λ k. rw (le-ltb x n k)))

pub success_same : {n n' root root' cost cost' moved moved' : ℕ} {marked marked' : Bool} (l l' : List ℕ) → n ≡ n' → root ≡ root'
    → Same n' (at l) (at l') → marked ≡ marked' → cost ≡ cost' → moved ≡ moved'
    → success n root l marked cost moved ≡ success n' root' l' marked' cost' moved'
success_same {n' = n'} l l' e f h g i j = rw (e, f, held_same n' l l' h, g, i, j)

-- the tree was made anew
pub tell_made : {n root : ℕ} (parents : List ℕ) {marked : Bool} {cost moved : ℕ} {tree : Tree}
    → (tree.n ≡ n) × ((tree.root ≡ root) × (tree.parents ≡ parents_held n parents))
    → record { tree = tree; given = marked; cost = cost; moves = moved } ≡ success n root parents marked cost moved
tell_made parents e = rw (← e.1.1, ← e.0, ← e.1.0)
