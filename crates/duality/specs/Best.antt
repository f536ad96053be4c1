-- Document 01, "The best answer": plans, their cost, and demand 3. mu and nu are the paintings.
use Rattle.std.specs.Prelude.{ℕ, ◌*◌, ◌≤◌, ◌<◌, ◌≡◌, ℤ, pos, nat_abs, ◌-ℤ◌, ◌*ℤ◌}
use Rattle.arithmetic.specs.Sum.{sum}
use Rattle.arithmetic.specs.Integer.{sum_ℤ}
use Rattle.arithmetic.specs.Table.{at}
use Rattle.graph.specs.Graph.{Graph, edges}
use Rattle.graph.specs.Distance.{distance}
use Rattle.graph.specs.SpanningTree.{SpanningTree}
use Rattle.tree_figures.specs.Figures.{difference, tree_cost}

-- "A plan is any n × n table of whole numbers from 0 with row sums mu and column sums nu"
pub record Plan (n : ℕ) (mu nu : ℕ → ℕ) (t : ℕ → ℕ → ℕ) : Type 0 where
  pub rows : (i : ℕ) → i < n → sum n (λ j. t i j) ≡ mu i
  pub columns : (j : ℕ) → j < n → sum n (λ i. t i j) ≡ nu j

-- "its cost is the sum of entry × d"
unfoldable pub plan_cost : Graph → (ℕ → ℕ → ℕ) → ℕ
plan_cost g t = sum g.n (λ i. sum g.n (λ j. t i j * distance g i j))

-- every spanning tree of the graph, under any root, costs at least c
abbrev pub LeastTree : Graph → (ℕ → ℕ) → (ℕ → ℕ) → ℕ → Type 0
LeastTree g mu nu c = (r : ℕ) (p : ℕ → ℕ) → SpanningTree g r p → c ≤ tree_cost g r p mu nu

-- every plan costs at least c
abbrev pub LeastPlan : Graph → (ℕ → ℕ) → (ℕ → ℕ) → ℕ → Type 0
LeastPlan g mu nu c = (t : ℕ → ℕ → ℕ) → Plan g.n mu nu t → c ≤ plan_cost g t

-- demand 3: a tree with root 0 and the parents p, a plan t, a potential u and a cost certify each other
pub record Best (g : Graph) (mu nu : ℕ → ℕ) (p : ℕ → ℕ) (t : ℕ → ℕ → ℕ) (u : ℕ → ℤ) (cost : ℕ) : Type 0 where
  -- the plan has row sums mu and column sums nu, and no plan costs less
  pub carries : Plan g.n mu nu t
  pub least_plan : LeastPlan g mu nu (plan_cost g t)
  -- the tree is a spanning tree of the graph, and no spanning tree under any root costs less
  pub spanning : SpanningTree g 0 p
  pub least_tree : LeastTree g mu nu (tree_cost g 0 p mu nu)
  -- the three costs are equal
  pub plan_cost_is : plan_cost g t ≡ cost
  pub tree_cost_is : tree_cost g 0 p mu nu ≡ cost
  -- the potential is 0 at vertex 0, changes along no edge by more than its length, and weighs the paintings' difference to the cost
  pub zero_at_0 : u 0 ≡ pos 0
  pub within : (e : ℕ) → e < edges g → nat_abs (u (at g.lower e) -ℤ u (at g.upper e)) ≤ at g.lengths e
  pub weighs : sum_ℤ g.n (λ y. u y *ℤ difference mu nu y) ≡ pos cost
