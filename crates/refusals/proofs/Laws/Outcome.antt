-- The number of a call's result: 0 at a success alone, and an error that `?` hands on keeps its number.
use mathlib.Core.Path.{◌≡◌, refl, ap, ◌∙◌}
use mathlib.Core.List.{List, ◌++◌}
use Prim.Native.Nat.{ℕ}
use native.Mathlib.Omega.{arith}
use Rattle.std.specs.Prelude.{Result, IsOk, IsErrAnd}
use Rattle.std.specs.declared.result.Result.TheVariants.{Ok, Err}
use Rattle.arithmetic.specs.Refusal.{Check, refusal}
use Rattle.arithmetic.specs.Table.{result, written}
use Rattle.arithmetic.proofs.Laws.Refusal.{stops}
use Rattle.arithmetic.proofs.Laws.Table.{result_refused, written_refused}
use Rattle.refusals.specs.declared.Refusal.{Refusal}
use Rattle.refusals.specs.declared.Refusal.TheVariants.{Vertices, Tables, Edges, Lengths, Unconnected, Total, UnequalTotals, Parents, TreeEdges, Chains, ImageSize, Sections, Layout, Sequence, Weights, Grains, Start}
use Rattle.refusals.specs.Refusals.{number, number_of}

-- no refusal has the number 0
pub number_some : (r : Refusal) → number r ≡ 0 → ⊥
number_some Vertices z = omega arith
number_some Tables z = omega arith
number_some Edges z = omega arith
number_some Lengths z = omega arith
number_some Unconnected z = omega arith
number_some Total z = omega arith
number_some UnequalTotals z = omega arith
number_some Parents z = omega arith
number_some TreeEdges z = omega arith
number_some Chains z = omega arith
number_some ImageSize z = omega arith
number_some Sections z = omega arith
number_some Layout z = omega arith
number_some Sequence z = omega arith
number_some Weights z = omega arith
number_some Grains z = omega arith
number_some Start z = omega arith

-- so a refused call tells nothing, and leaves a lent table as it was
pub no_result : (r : Refusal) (v : ℕ) → 0 ≡ result (number r) v
no_result r v = result_refused (number r) v (number_some r)

pub kept : {A : Type 0} (r : Refusal) (answer lent : List A) → lent ≡ written (number r) answer lent
kept r answer lent = written_refused (number r) answer lent (number_some r)

-- the number 0 is a success
pub ok_of_zero : {A : Type 0} (s : Result A Refusal) → number_of s ≡ 0 → IsOk s
ok_of_zero (Ok v) z = refl
ok_of_zero (Err r) z = absurd (number_some r z)

-- an error that `?` hands on keeps its number,
pub handed_number : {A : Type 0} (s : Result A Refusal) (r : Refusal) → IsErrAnd s (λ e. e ≡ r) → number_of s ≡ number r
handed_number (Ok v) r h = absurd h
handed_number (Err e) r h = ap number h

-- which is not 0
pub handed_some : {A : Type 0} (s : Result A Refusal) (r : Refusal) → IsErrAnd s (λ e. e ≡ r) → number_of s ≡ 0 → ⊥
handed_some (Ok v) r h z = absurd h
handed_some (Err e) r h z = number_some e z

-- and as the number of a list of checks it is the number of any longer list
pub handed_stops : {A : Type 0} (s : Result A Refusal) (r : Refusal) (cs ds : List Check)
    → IsErrAnd s (λ e. e ≡ r) → number r ≡ refusal cs → number_of s ≡ refusal (cs ++ ds)
handed_stops s r cs ds h e = stops _ cs ds (handed_number s r h ∙ e) (handed_some s r h)
