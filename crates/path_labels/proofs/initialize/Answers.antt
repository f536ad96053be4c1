use mathlib.Core.Path.{◌≡◌, ap, ◌∙◌}
use mathlib.Core.List.{List, ◌++◌}
use Prim.Native.Nat.{ℕ, ◌≤◌}
use lib.ListN.{length, take, drop, replicate}
use Rattle.std.proofs.lemmas.List.{length-take-le}
use Rattle.arithmetic.specs.Steps.Fill.{Filled}
use Rattle.arithmetic.proofs.Laws.Slices.{replicate_tab, filled_front}
use Rattle.path_labels.proofs.Laws.Labelling.{initialized}
use Rattle.path_labels.proofs.initialize.Goals as goal

even : (n v : ℕ) (old front : List ℕ) → n ≤ length old → front ≡ replicate (length (take n old)) v → Filled n (λ _. v) old (front ++ drop n old)
even n v old front h e =
    filled_front h (ap (λ (z : List ℕ). z ++ drop n old) (e ∙ ap (λ (m : ℕ). replicate m v) (length-take-le n old h) ∙ replicate_tab n v))

pub returns : goal.returns
returns c =
    let room = c.requires.1 in
    initialized _ c.requires.0 room.1
    (even 64 _ _ _ room.0 (c.fill.ensures.after (λ _ e. e))) (even 64 _ _ _ room.1 (c.fill-2.ensures.after (λ _ e. e)))
