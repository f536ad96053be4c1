-- What a marked case of document 01 says, as a test that computes on the definitions.
use Rattle.std.specs.Prelude.{ℕ, Bool, true, false, cond, ◌&&◌, List, [], ◌∷◌, get_or, eqb, leb, ℤ, pos, negsuc, nat_abs, ◌-ℤ◌, ◌*ℤ◌}
use Rattle.arithmetic.specs.Bools.{all}
use Rattle.arithmetic.specs.Sum.{pick}
use Rattle.arithmetic.specs.Integer.{sum_ℤ}
use Rattle.arithmetic.specs.Refusal.{refusal}
use Rattle.arithmetic.specs.Table.{at, tab, matrix}
use Rattle.graph.specs.Graph.{Graph, edges}
use Rattle.tree_checks.specs.Checks.{tree_checks}
use Rattle.given_tree.specs.Given.{Given, given_refusal}
use Rattle.plan_rule.specs.Plan.{moves}
use Rattle.tree_figures.specs.Figures.{difference, imbalance, potential, tree_cost}
use Rattle.tree_evaluation.specs.Evaluate.{tree_plan}
use Rattle.duality.specs.BestCost.{best_cost}
use Rattle.optimal_transport.specs.Solve.{solve_refusal}
use Rattle.image.specs.Image.{amount}
use Rattle.image_reader.specs.Read.{lists, read_refusal}
use Rattle.image.specs.Contents.{graph_of_image}
use Rattle.weight_mover.specs.Run.{run_refusal, answer_record}
use Rattle.listing.specs.Listing.{listing}
use Rattle.optimality_test.specs.OptimalityTest.{given_cost}

-- a figure that the document gives, or is silent on
pub data Said (A : Type 0) : Type 0 where
  silent : Said A
  said : A → Said A

-- what shows that a best cost is the best: a spanning tree's parents, its root being 0, and a potential
pub record BestFigures : Type 0 where
  pub parents : List ℕ
  pub potentials : List ℤ
  pub cost : ℕ

-- a case with its figures
pub record Case : Type 0 where
  pub patch : Graph
  pub lent : Given
  pub refusal : ℕ
  pub imbalances : Said (List ℤ)
  pub potentials : Said (List ℤ)
  pub cost : Said ℕ
  pub moved : Said ℕ
  pub entries : Said (List ℕ)
  pub best : Said BestFigures
  pub judged : Said ℕ

-- an image with the number that the reader and the entry give it, its host record and its listing; without a tree, with a best answer, of
-- which the tree and the potential are free
pub record Bytes : Type 0 where
  pub image : List ℕ
  pub refusal : ℕ
  pub best : Said BestFigures
  pub host : Said (List ℕ)
  pub listing : List ℕ

abbrev pub same_ℤ : ℤ → ℤ → Bool
same_ℤ (pos a) (pos b) = eqb a b
same_ℤ (pos a) (negsuc b) = false
same_ℤ (negsuc a) (pos b) = false
same_ℤ (negsuc a) (negsuc b) = eqb a b

unfoldable pub sames : {A : Type 0} → (A → A → Bool) → List A → List A → Bool
sames eq [] [] = true
sames eq [] (y ∷ ys) = false
sames eq (x ∷ xs) [] = false
sames eq (x ∷ xs) (y ∷ ys) = eq x y && sames eq xs ys

-- the figure is the computed one, where the document gives it
abbrev pub agrees : {A : Type 0} → (A → A → Bool) → A → Said A → Bool
agrees eq x silent = true
agrees eq x (said y) = eq x y

-- a certificate's potential
abbrev pub potential_of : BestFigures → ℕ → ℤ
potential_of c y = get_or c.potentials y (pos 0)

abbrev pub within_edge : Graph → BestFigures → ℕ → Bool
within_edge g c e = leb (nat_abs (potential_of c (at g.lower e) -ℤ potential_of c (at g.upper e))) (at g.lengths e)

abbrev pub weight : Graph → (ℕ → ℕ) → (ℕ → ℕ) → BestFigures → ℤ
weight g mu nu c = sum_ℤ g.n (λ y. potential_of c y *ℤ difference mu nu y)

-- the certificate's tree is a spanning tree of that cost, and its potential is 0 at vertex 0, within each edge's length and weighs to it
unfoldable pub certifies : Graph → (ℕ → ℕ) → (ℕ → ℕ) → BestFigures → Bool
certifies g mu nu c =
    eqb (refusal (tree_checks g 0 (at c.parents))) 0 && (eqb (tree_cost g 0 (at c.parents) mu nu) c.cost
    && (same_ℤ (potential_of c 0) (pos 0) && (all (edges g) (within_edge g c) && same_ℤ (weight g mu nu c) (pos c.cost))))

-- the certificate's cost is the best cost, and the case is not refused
abbrev pub certified : Graph → (ℕ → ℕ) → (ℕ → ℕ) → ℕ → Said BestFigures → Bool
certified g mu nu number silent = true
certified g mu nu number (said c) = eqb number 0 && (certifies g mu nu c && eqb (best_cost g mu nu) c.cost)

-- "the best call after 7": its number, where weighing has the given one
abbrev pub up_to7 : ℕ → ℕ
up_to7 number = cond (leb number 7) number 0

-- a lent table that is long enough for all that stands here
abbrev pub room : {A : Type 0} → A → List A
room x = tab 600 (λ i. x)

-- all figures of a case: the number, the best cost, the judgment, the number of the best call, and what weighing gives
unfoldable pub holds : Case → Bool
holds c =
    eqb (given_refusal g w true) c.refusal
    && (certified g mu nu c.refusal c.best
    && (agrees eqb (pick (eqb (given_cost g w) (best_cost g mu nu)) 1) c.judged
    && (eqb (solve_refusal g w.mu w.nu (room 0) (room (pos 0)) (room 0)) (up_to7 c.refusal)
    && (agrees (sames same_ℤ) (tab g.n (imbalance g.n p mu nu)) c.imbalances
    && (agrees (sames same_ℤ) (tab g.n (potential g w.root p mu nu)) c.potentials
    && (agrees eqb (given_cost g w) c.cost
    && (agrees eqb (moves g.n (tree_plan g w)) c.moved
    && agrees (sames eqb) (matrix g.n (tree_plan g w)) c.entries)))))))
  where
    g : Graph
    g = c.patch

    w : Given
    w = c.lent

    p : ℕ → ℕ
    p = at w.parents

    mu : ℕ → ℕ
    mu = at w.mu

    nu : ℕ → ℕ
    nu = at w.nu

-- the certificate, or an empty one
abbrev pub found : Said BestFigures → BestFigures
found silent = record { parents = []; potentials = []; cost = 0 }
found (said c) = c

-- all that is said of an image: the number of the entry, the best answer, the number of the reader, the host record and the listing
unfoldable pub reads : Bytes → Bool
reads b =
    eqb (run_refusal s (room 0)) b.refusal
    && (certified (graph_of_image s) (amount s 0) (amount s 1) b.refusal b.best
    && (eqb (read_refusal s (lists (room 0) (room 0) (room 0) (room 0) (room 0) (room 0))) b.refusal
    && (agrees (sames eqb) (answer_record s (at (found b.best).parents) (potential_of (found b.best))) b.host
    && sames eqb (listing s) b.listing)))
  where
    s : List ℕ
    s = b.image

unfoldable pub every : {A : Type 0} → (A → Bool) → List A → Bool
every f [] = true
every f (x ∷ xs) = f x && every f xs
