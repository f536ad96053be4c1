use mathlib.Core.Path.{◌≡◌, ap, ◌∙◌}
use mathlib.Core.List.{List}
use Prim.Native.Nat.{ℕ}
use lib.Dec.{ltb}
use lib.ListN.{length, take}
use Rattle.std.proofs.lemmas.List.{length-take-le, get_or-take}
use Rattle.std.proofs.Common.{rules}
use Rattle.arithmetic.specs.Bools.{all}
use Rattle.arithmetic.specs.Table.{at}
use Rattle.arithmetic.proofs.Laws.Bools.{all_ext}
use Rattle.arithmetic.proofs.Laws.Slices.{all_entries}
use Rattle.path_labels.specs.Steps.Weight.{unreached}
use Rattle.path_labels.proofs.all_reached.Goals as goal

pub returns : goal.returns
returns c =
    let front : List ℕ = take c.args.n c.args.labels.now in
    let size : length front ≡ c.args.n = length-take-le c.args.n c.args.labels.now c.requires in
    all_entries c.all.result front (λ v. ltb (at front v) unreached) (search rules)
    ∙ ap (λ (m : ℕ). all m (λ v. ltb (at front v) unreached)) size
    ∙ all_ext c.args.n _ _ (λ v l. ap (λ (x : ℕ). ltb x unreached) (get_or-take c.args.n c.args.labels.now v 0 l))
