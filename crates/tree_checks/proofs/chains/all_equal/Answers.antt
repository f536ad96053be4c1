use mathlib.Core.Path.{◌≡◌, ap, ◌∙◌}
use mathlib.Core.List.{List}
use Prim.Native.Nat.{ℕ}
use lib.Dec.{eqb}
use lib.ListN.{length, take}
use Rattle.std.proofs.lemmas.List.{length-take-le, get_or-take}
use Rattle.std.proofs.Common.{rules}
use Rattle.arithmetic.specs.Bools.{all}
use Rattle.arithmetic.specs.Table.{at}
use Rattle.arithmetic.proofs.Laws.Bools.{all_ext}
use Rattle.arithmetic.proofs.Laws.Slices.{all_entries}
use Rattle.tree_checks.proofs.chains.all_equal.Goals as goal

pub returns : goal.returns
returns c =
    let front : List ℕ = take c.args.n c.args.table.now in
    let size : length front ≡ c.args.n = length-take-le c.args.n c.args.table.now (search rules) in
    all_entries c.all.result front (λ x. eqb (at front x) c.args.value) (search rules)
    ∙ ap (λ (m : ℕ). all m (λ x. eqb (at front x) c.args.value)) size
    ∙ all_ext c.args.n _ _ (λ x l. ap (λ (v : ℕ). eqb v c.args.value) (get_or-take c.args.n c.args.table.now x 0 l))
