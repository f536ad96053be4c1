-- The leaving edge. An edge from s to t closes a cycle with the paths from s and t up to their lowest common ancestor. Of the vertices on them whose
-- flow runs against the cycle one has the least flow; the edge above it leaves the tree.
use Rattle.std.specs.Prelude.{◌≡◌, Bool, true, false, List, ◌⊎◌, ℕ, ◌-◌, ◌≤◌, ◌<◌, Option, Some, None, MatchOption}
use Rattle.arithmetic.specs.Table.{at}
use Rattle.ratio_test.specs.declared.PathFlow.{PathFlow}
use Rattle.tree_pivot.specs.Steps.PivotCost.{Upward, Leaving}
use Rattle.tree_pivot.specs.Steps.PivotBasis.{CommonAncestor}
use Rattle.ratio_test.specs.Steps.CommonAncestor.{CanMeet}

-- the flow up from x, if there is one
abbrev pub FlowUp : (x more less : ℕ) → Option PathFlow → Type 0
FlowUp x more less o = MatchOption o (more ≤ less) (λ r. (r.vertex ≡ x) × ((less < more) × (r.flow ≡ more - less)))

-- no vertex that is above a and not above b has an upward flow
abbrev pub NoFlow : ℕ → (p more less : ℕ → ℕ) → (a b : ℕ) → Type 0
NoFlow n p more less a b = (x : ℕ) → Upward n p more less a b x → ⊥

-- c has the least of those that there are
pub record LeastFlow (n : ℕ) (p more less : ℕ → ℕ) (a b c flow : ℕ) : Type 0 where
  pub upward : Upward n p more less a b c
  pub flow_is : flow ≡ more c - less c
  pub least : (x : ℕ) → Upward n p more less a b x → flow ≤ more x - less x

-- the same of a flow that is found, or of none
abbrev pub PathLeast : ℕ → (p more less : ℕ → ℕ) → (a b : ℕ) → Option PathFlow → Type 0
PathLeast n p more less a b o = MatchOption o (NoFlow n p more less a b) (λ r. LeastFlow n p more less a b r.vertex r.flow)

-- a flow is less than another; none is more than any
abbrev pub IsLess : (flow other : Option PathFlow) → Type 0
IsLess None other = ⊥
IsLess (Some f) None = Unit {0}
IsLess (Some f) (Some g) = f.flow < g.flow

-- the tree with its flows, and an edge from s to t that closes a cycle with a flow against it
pub record CanLeave (n : ℕ) (parents supply demand masks : List ℕ) (s t : ℕ) : Type 0 where
  pub meet : CanMeet n parents masks s t
  pub against : (x : ℕ) × (Upward n (at parents) (at supply) (at demand) s t x ⊎ Upward n (at parents) (at demand) (at supply) t s x)

-- c leaves, and the subtree below it hangs by a on b: by s on t, or, where its potential is to rise, by t on s
abbrev pub HangsBy : Bool → ℕ → (p supply demand : ℕ → ℕ) → (s t a b c : ℕ) → Type 0
HangsBy false n p supply demand s t a b c = (a ≡ s) × ((b ≡ t) × Leaving n p supply demand s t c)
HangsBy true n p supply demand s t a b c = (a ≡ t) × ((b ≡ s) × Leaving n p demand supply t s c)

-- the exchange of an entering edge from s to t
pub record Exchanged (n : ℕ) (p supply demand : ℕ → ℕ) (s t a b c j : ℕ) (rises : Bool) : Type 0 where
  pub ancestor : CommonAncestor n p a b j
  pub leaves : HangsBy rises n p supply demand s t a b c
