-- What the reader returns, in numbers: after a refusal each is 0.
use Rattle.std.specs.Prelude.{ℕ, Result, Option, unwrap_or}
use Rattle.std.specs.Option.{option_len}
use Rattle.refusals.specs.declared.Refusal.{Refusal}
use Rattle.refusals.specs.Refusals.{or_zero}
use Rattle.image_reader.specs.declared.reading.Reading.{Reading}

-- "root and 1 for a tree. Without a tree the root is 0, that mark is 0": of the root of the tree, if there is one
abbrev pub root_number : Option ℕ → ℕ
root_number root = unwrap_or root 0

abbrev pub tree_mark : Option ℕ → ℕ
tree_mark root = option_len root

-- of what the reader returns
abbrev pub n_of : Result Reading Refusal → ℕ
n_of = or_zero (λ v. v.n)

abbrev pub m_of : Result Reading Refusal → ℕ
m_of = or_zero (λ v. v.m)

abbrev pub root_of : Result Reading Refusal → ℕ
root_of = or_zero (λ v. root_number v.root)

abbrev pub mark_of : Result Reading Refusal → ℕ
mark_of = or_zero (λ v. tree_mark v.root)
