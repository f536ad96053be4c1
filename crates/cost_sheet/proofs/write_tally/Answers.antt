use mathlib.Core.Path.{◌≡◌, refl, sym, ap, ◌∙◌}
use mathlib.Core.List.{List, ◌++◌}
use Prim.Native.Nat.{ℕ}
use lib.ListN.{length, drop}
use lib.Seq.{length-take-le}
use Rattle.arithmetic.specs.Table.{at, tab}
use Rattle.arithmetic.proofs.Laws.Table.{length-tab, tab_is}
use Rattle.cost_sheet.proofs.write_tally.Goals as goal

-- `write_tally` meets its contract.
pub returns : goal.returns
returns c =
    let s = c.copy_from_slice.ensures in
    let long : length c.args.tally ≡ 24 = ap length (sym s.after) ∙ s.len ∙ length-take-le _ _ c.requires in
    let e : c.args.tally ≡ tab 24 (at c.args.tally) = sym (tab_is 24 (at c.args.tally) c.args.tally long (λ _ _. refl)) in
    rw (s.after, length-tab 24 (at c.args.tally)) (ap (λ (m : List ℕ). m ++ drop 24 c.args.out.now) e)
