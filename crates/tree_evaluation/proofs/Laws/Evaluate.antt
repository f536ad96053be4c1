-- The call that evaluates a given tree: what evaluating an accepted tree gives, and how the call ends.
use Prim.Native.Nat.{ℕ, ◌*◌, ◌≤◌}
use mathlib.Core.Path.{◌≡◌, refl, sym, ap, ◌∙◌}
use mathlib.Core.List.{List, ◌++◌}
use native.Mathlib.Omega.{arith}
use lib.IntN.{ℤ, pos, sub_ℕ}
use lib.ListN.{length, drop, get_or}
use Rattle.arithmetic.specs.Table.{at, tab, matrix}
use Rattle.arithmetic.specs.Mask.{mask}
use Rattle.arithmetic.specs.Steps.Fill.{Filled}
use Rattle.arithmetic.proofs.Laws.Table.{length-tab, length-rows, front_at, front_length, result_refused, written_refused}
use Rattle.vertex_set.specs.Steps.Sets.{VertexSets}
use Rattle.rooted_tree.specs.Chain.{below}
use Rattle.rooted_tree.specs.Steps.Subtotal.{subtotal}
use Rattle.subtree_sums.proofs.Laws.Heights.{words_sets}
use Rattle.graph.specs.Graph.{Graph, graph}
use Rattle.spanning_tree.specs.TreeValue.{parents_held}
use Rattle.given_tree.specs.Given.{Given, answers_ok}
use Rattle.given_tree.specs.Steps.Given.{GivenChecked}
use Rattle.given_tree.proofs.Laws.Given.{GivenAccepted, given-passed, given_accepted, room_within}
use Rattle.plan_rule.specs.Plan.{plan, moves}
use Rattle.tree_figures.specs.Figures.{imbalance, potential, tree_cost}
use Rattle.tree_figures.specs.Steps.Tables.{Short, LengthsTo, Moderate, cost_from, potential_from}
use Rattle.tree_figures.proofs.Laws.Figure.{imbalance_moderate, imbalance_table, cost_table, potential_table}
use Rattle.tree_evaluation.specs.Evaluate.{evaluate_refusal, Evaluated}
use Rattle.tree_evaluation.specs.Steps.EvaluateTree.{Weighted, Evaluable, TreeEvaluated}
use Rattle.tree_evaluation.proofs.Laws.GivenTree.{given_weighted, given_evaluable, given_holds, given_same}

-- ---- an accepted tree

-- its imbalances, its cost, and its plan
pub tree_evaluated : {g : Graph} {r : ℕ} {p mu nu : ℕ → ℕ} {imbalances imbalances' : List ℤ} {entries entries' : List ℕ} {cost moved : ℕ}
    → imbalances' ≡ tab g.n (imbalance g.n p mu nu) ++ drop g.n imbalances → cost ≡ tree_cost g r p mu nu
    → (entries' ≡ matrix g.n (plan g.n r p mu nu) ++ drop (g.n * g.n) entries) × (moved ≡ moves g.n (plan g.n r p mu nu))
    → TreeEvaluated g r p mu nu imbalances entries cost moved imbalances' entries'
tree_evaluated i c e = record { cost_is = c; moves_are = e.1; imbalance_is = i; plan_is = e.0 }

-- the imbalances follow from the masses a and b of mu and nu below each vertex
pub imbalances_found : (n : ℕ) (p mu nu : ℕ → ℕ) {a a' b b' : List ℕ} (imbalances : List ℤ) {imbalances' : List ℤ}
    → Filled n (subtotal p n mu) a a' → Filled n (subtotal p n nu) b b' → imbalances' ≡ tab n (λ x. sub_ℕ (at a' x) (at b' x)) ++ drop n imbalances
    → imbalances' ≡ tab n (imbalance n p mu nu) ++ drop n imbalances
imbalances_found n p mu nu {a' = a'} {b' = b'} imbalances m v i =
    i ∙ ap (λ (z : List ℤ). z ++ drop n imbalances) (imbalance_table n p mu nu (at a') (at b') m.each v.each)

-- and are moderate, so that the potential can be found
pub potential_asked : {n r u : ℕ} {parents above mu nu old words : List ℕ} {imbalances imbalances' : List ℤ}
    → Weighted n r parents above mu nu imbalances → Filled n (λ x. mask n (λ y. below (at parents) n y x)) old words → n ≤ length old
    → imbalances' ≡ tab n (imbalance n (at parents) (at mu) (at nu)) ++ drop n imbalances → n ≤ u
    → ((n ≤ 64) × (n ≤ u)) × ((VertexSets n words × ((n ≤ length above) × (n ≤ length imbalances')))
    × (Short n r (at above) × Moderate n imbalances'))
potential_asked {n} {r} {u} {parents} {above} {mu} {nu} {old} {words} {imbalances} {imbalances'} t gathered long i room =
    let moderate : Moderate n imbalances'
    = λ x l.
    rw (i, front_at n (imbalance n (at parents) (at mu) (at nu)) imbalances (pos 0) x l)
    (imbalance_moderate n (at parents) (at mu) (at nu) x (omega (arith, t.measures.total_mu)) (omega (arith, t.measures.total_nu))) in
    let kept = ap length i ∙ front_length n _ imbalances t.room_imbalance in
    ((t.few, room), ((words_sets n (at parents) gathered long, (t.long_above, omega (arith, t.room_imbalance, kept))), (t.short, moderate)))

-- the cost follows from the lengths l to the parents too,
module _ (g : Graph) (r : ℕ) (p mu nu l : ℕ → ℕ) (lengths : LengthsTo g r p l) where
  pub cost_found : {a a' b b' : List ℕ} {cost : ℕ} → Filled g.n (subtotal p g.n mu) a a' → Filled g.n (subtotal p g.n nu) b b'
      → cost ≡ cost_from g.n r l (at a') (at b') → cost ≡ tree_cost g r p mu nu
  cost_found {a' = a'} {b' = b'} m v c = c ∙ cost_table g r p mu nu l lengths (at a') (at b') m.each v.each

  -- and the potential from the words and the imbalances
  pub potential-from : (imbalances potentials : List ℤ) {imbalances' potentials' : List ℤ} {old words : List ℕ}
      → Filled g.n (λ x. mask g.n (λ y. below p g.n y x)) old words
      → imbalances' ≡ tab g.n (imbalance g.n p mu nu) ++ drop g.n imbalances
      → potentials' ≡ tab g.n (potential_from g.n r (at words) l (λ x. get_or imbalances' x (pos 0))) ++ drop g.n potentials
      → potentials' ≡ tab g.n (potential g r p mu nu) ++ drop g.n potentials
  potential-from imbalances potentials {imbalances'} words i u =
      u ∙ ap (λ (z : List ℤ). z ++ drop g.n potentials)
      (potential_table g r p mu nu l lengths words (λ x. get_or imbalances' x (pos 0)) (λ x h. rw i (front_at g.n (imbalance g.n p mu nu) imbalances (pos 0) x h)))

-- ---- how the call ends
module _ {g : Graph} {w : Given} (imbalances potentials : List ℤ) (entries : List ℕ) {k : ℕ} {above above' first edge : List ℕ}
    (checked : GivenChecked g w (answers_ok g.n (length imbalances) (length potentials) (length entries)) k above above' first edge) where
  pub evaluate_refused : (k ≡ 0 → ⊥) → Evaluated g w imbalances potentials entries k 0 0 imbalances potentials entries
  unfolding evaluate_refusal
  evaluate_refused d = record {
    refusal = checked.number;
    cost_is = result_refused k _ d;
    moves_are = result_refused k _ d;
    imbalance_is = written_refused k _ imbalances d;
    potential_is = written_refused k _ potentials d;
    plan_is = written_refused k _ entries d;
  }

-- nothing is refused: the tree by value; u is the room for its potential
module _ {g : Graph} {w : Given} (imbalances : List ℤ) (u : ℕ) (entries : List ℕ) {above above' first edge : List ℕ}
    (checked : GivenChecked g w (answers_ok g.n (length imbalances) u (length entries)) 0 above above' first edge)
    {n r : ℕ} {parents : List ℕ} (held : (n ≡ g.n) × ((r ≡ w.root) × (parents ≡ parents_held g.n w.parents))) where
  accepted : GivenAccepted g w
  accepted = given_accepted checked refl

  rooms : (g.n ≤ length imbalances) × ((g.n ≤ u) × (g.n * g.n ≤ length entries))
  rooms = room_within g.n _ _ _ (given-passed g w _ (sym checked.number)).1

  pub evaluable : 64 ≤ length above → Evaluable n r parents above' w.mu w.nu imbalances entries
  evaluable long = given_evaluable accepted (checked.lengths refl) held long rooms.0 rooms.1.1

  module _ {cost moved : ℕ} {imbalances' : List ℤ} {entries' old words : List ℕ}
      (gathered : Filled n (λ x. mask n (λ y. below (at parents) n y x)) old words)
      (promise : LengthsTo (graph n g.lower g.upper g.lengths) r (at parents) (at above')
      → TreeEvaluated (graph n g.lower g.upper g.lengths) r (at parents) (at w.mu) (at w.nu)
      imbalances entries cost moved imbalances' entries') where
    value : TreeEvaluated g w.root (at w.parents) (at w.mu) (at w.nu) imbalances entries cost moved imbalances' entries'
    value =
        given_holds accepted (checked.lengths refl) held
        (λ h s p. TreeEvaluated h s p (at w.mu) (at w.nu) imbalances entries cost moved imbalances' entries') promise

    pub evaluate_asked : 64 ≤ length above → 64 ≤ length old
        → ((n ≤ 64) × (n ≤ u)) × ((VertexSets n words × ((n ≤ length above') × (n ≤ length imbalances')))
        × (Short n r (at above') × Moderate n imbalances'))
    evaluate_asked room long =
        let e = given_weighted accepted (checked.lengths refl) held room {imbalances = imbalances} rooms.0 in
        potential_asked {imbalances' = imbalances'} e gathered (omega (arith, e.few)) (rw (held.0, given_same accepted (checked.lengths refl) held) value.imbalance_is)
        (omega (arith, rooms.1.0, held.0))

    pub evaluate_done : {potentials potentials' : List ℤ} → u ≡ length potentials
        → potentials' ≡ tab n (potential_from n r (at words) (at above') (λ x. get_or imbalances' x (pos 0))) ++ drop n potentials
        → Evaluated g w imbalances potentials entries 0 cost moved imbalances' potentials' entries'
    unfolding evaluate_refusal
    evaluate_done {potentials} e written = record {
      refusal = rw e at checked.number;
      cost_is = value.cost_is;
      moves_are = value.moves_are;
      imbalance_is = rw length-tab value.imbalance_is;
      potential_is =
          rw length-tab
          (potential-from g w.root (at w.parents) (at w.mu) (at w.nu) (at above') (checked.lengths refl).each
          imbalances potentials (rw (held.0, given_same accepted (checked.lengths refl) held) at gathered) value.imbalance_is (rw (held.0, held.1.0) at written));
      plan_is = rw length-rows value.plan_is;
    }
