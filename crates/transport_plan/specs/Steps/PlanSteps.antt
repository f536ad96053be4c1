-- What the plan of a tree asks for, and what is said of its start.
use Rattle.std.specs.Prelude.{◌≡◌, List, ℕ, ◌*◌, ◌-◌, ◌≤◌, ◌<◌, ◌^◌, min, eqb, ltb, length}
use Rattle.arithmetic.specs.Sum.{sum, pick}
use Rattle.arithmetic.specs.Table.{at}
use Rattle.arithmetic.specs.Mask.{mask}
use Rattle.arithmetic.specs.Steps.Table.{cell}
use Rattle.arithmetic.specs.Steps.Fill.{Filling}
use Rattle.arithmetic.specs.Steps.Matrix.{filled}
use Rattle.rooted_tree.specs.Chain.{below, depth}
use Rattle.plan_rule.specs.Plan.{started}
use Rattle.plan_rule.specs.Steps.Agreement.{Agree}
use Rattle.plan_matching.specs.declared.Residue.{Residue}
use Rattle.plan_matching.specs.Steps.Residue.{partial_plan, Consistent}

-- the tables of depths and subtree masks of the tree with root r and parents p
pub record TreeTables (n r : ℕ) (p : ℕ → ℕ) (depths masks : List ℕ) : Type 0 where
  pub small : n ≤ 64
  pub long_depths : n ≤ length depths
  pub long_masks : n ≤ length masks
  pub depths_are : (x : ℕ) → x < n → at depths x ≡ depth p r n x
  pub masks_are : (x : ℕ) → x < n → at masks x ≡ mask n (λ y. below p n y x)

-- two measures whose totals fit
pub record Measures (n : ℕ) (mu nu : List ℕ) : Type 0 where
  pub long_mu : n ≤ length mu
  pub long_nu : n ≤ length nu
  pub total_mu : sum n (at mu) ≤ 2 ^ 24
  pub total_nu : sum n (at nu) ≤ 2 ^ 24

-- a plan with no entry yet
pub record Zeros (n : ℕ) (plan : List ℕ) : Type 0 where
  pub room : n * n ≤ length plan
  pub each : (i j : ℕ) → i < n → j < n → cell n plan i j ≡ 0

-- at the vertices below x the plan has what mu and nu share, and the residue the rest
pub record SharedKept (n : ℕ) (mu nu s₀ d₀ plan₀ : List ℕ) (x : ℕ) (s d plan : List ℕ) : Type 0 where
  pub surplus : Filling n (λ i. at mu i - at nu i) s₀ s x
  pub deficit : Filling n (λ i. at nu i - at mu i) d₀ d x
  pub long : length plan ≡ length plan₀
  pub sent : plan ≡ filled n (λ i j. pick (eqb i j) (pick (ltb i x) (min (at mu i) (at nu i)))) plan₀

-- the plan has what mu and nu share, and the residue the rest: the rule's start
pub record Begun (n : ℕ) (mu nu plan₀ : List ℕ) (r : Residue) (plan : List ℕ) : Type 0 where
  pub agree : Agree n (started (at mu) (at nu)) (partial_plan n r plan)
  pub consistent : Consistent n r plan
  pub sent : plan ≡ filled n (λ i j. pick (eqb i j) (min (at mu i) (at nu i))) plan₀
