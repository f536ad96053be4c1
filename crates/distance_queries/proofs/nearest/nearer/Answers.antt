use mathlib.Core.Path.{refl}
use native.Mathlib.Omega.{arith}
use Rattle.distance_queries.proofs.Laws.Nearest.{nearer_empty, nearer_first, nearer_this, nearer_best}
use Rattle.distance_queries.proofs.nearest.nearer.Goals as goal

pub returns-then-amounts-v-eq0-clause-value : goal.returns-then-amounts-v-eq0-clause-value
returns-then-amounts-v-eq0-clause-value c = nearer_empty _ _ _ _ c.if-amounts-v-eq0.true

pub returns-in-Some-clause-value : goal.returns-in-Some-clause-value
returns-in-Some-clause-value c =
    let few = rw c.in-Some.is at c.requires.most in
    rw c.in-Some.is (nearer_best _ _ _ _ c.if-amounts-v-eq0.false (λ z. omega (arith, few)) c.if-distances-x.true)

pub returns-in_default-clause-value : goal.returns-in_default-clause-value
returns-in_default-clause-value c =
    let few = rw c.in-Some.is at c.requires.most in
    rw c.in-Some.is (nearer_this _ _ _ _ c.if-amounts-v-eq0.false (λ z. omega (arith, few)) c.if-distances-x.false)

pub returns-in_default-2-clause-value : goal.returns-in_default-2-clause-value
returns-in_default-2-clause-value c = rw c.in_default.is (nearer_first _ _ _ _ c.if-amounts-v-eq0.false refl)
