-- What the table shows: demand 3 holds of the certificate of every case, and of every image, that has one.
use Prim.Native.Nat.{ℕ}
use mathlib.Core.Path.{◌≡◌, refl, sym, ap, ◌∙◌}
use mathlib.Core.Bool.{Bool, true}
use mathlib.Core.Logic.{⊎_elim}
use mathlib.Core.List.Memᴰ
use mathlib.Core.List.{List, [], ◌∷◌, Memᴰ}
use lib.Dec.{eqb}
use lib.IntN.{ℤ, pos, negsuc}
use borrow.Author.Tests.{eqb-true, leb-true}
use Rattle.arithmetic.specs.Bools.{all}
use Rattle.arithmetic.specs.Sum.{sum}
use Rattle.arithmetic.specs.Refusal.{refusal}
use Rattle.arithmetic.specs.Table.{at}
use Rattle.arithmetic.proofs.Laws.Bools.{and_l, and_r, clash, all-at}
use Rattle.graph.specs.Graph.{Graph, edges}
use Rattle.graph.specs.Steps.Accepted.{Accepted}
use Rattle.tree_checks.specs.Checks.{tree_checks}
use Rattle.tree_checks.proofs.Laws.TreeTests.{accepted_spanning}
use Rattle.given_tree.specs.Given.{given_refusal}
use Rattle.given_tree.proofs.Laws.Given.{given-passed}
use Rattle.tree_figures.specs.Figures.{tree_cost}
use Rattle.duality.specs.BestCost.{best_cost}
use Rattle.duality.proofs.Laws.Best.{IntegerCertificate, certified_best}
use Rattle.image.specs.Image.{amount}
use Rattle.image.specs.Contents.{graph_of_image}
use Rattle.image_answer.specs.ImageAnswer.{BestAnswer}
use Rattle.image_answer.proofs.Laws.Passed.{passed}
use Rattle.weight_mover.specs.Run.{run_refusal}
use Rattle.worked_cases.specs.Figures.{Case, Bytes, BestFigures, said, same_ℤ, potential_of, within_edge, certifies, certified, holds, reads, room, every}
use Rattle.worked_cases.specs.Cases.{cases, images}
use Rattle.worked_cases.specs.Best.{BestOf}
use Rattle.worked_cases.proofs.Laws.Theorem.{cases_hold}

same_ℤ-eq : (x y : ℤ) → same_ℤ x y ≡ true → x ≡ y
same_ℤ-eq (pos a) (pos b) h = ap pos (eqb-true a b h)
same_ℤ-eq (pos a) (negsuc b) h = clash h refl
same_ℤ-eq (negsuc a) (pos b) h = clash h refl
same_ℤ-eq (negsuc a) (negsuc b) h = ap negsuc (eqb-true a b h)

-- a test of a whole list holds of what is in it
every-at : {A : Type 0} (f : A → Bool) (l : List A) → every f l ≡ true → {x : A} → Memᴰ x l → f x ≡ true
unfolding every
every-at f [] h m = absurd (Memᴰ.not-nil m)
every-at f (y ∷ l) h m =
    ⊎_elim (λ e. ap f e ∙ and_l (f y) _ h) (λ k. every-at f l (and_r (f y) _ h) k) (Memᴰ.cases_cons m)

module _ (g : Graph) (mu nu : ℕ → ℕ) (k : BestFigures) where
  -- what its test says
  cost_is : certifies g mu nu k ≡ true → tree_cost g 0 (at k.parents) mu nu ≡ k.cost
  unfolding certifies
  cost_is h =
      eqb-true _ _ (and_l (eqb (tree_cost g 0 (at k.parents) mu nu) k.cost) _ (and_r (eqb (refusal (tree_checks g 0 (at k.parents))) 0) _ h))

  certificate : certifies g mu nu k ≡ true → IntegerCertificate g mu nu (at k.parents) (potential_of k)
  unfolding certifies
  certificate h =
      let h2 = and_r (eqb (refusal (tree_checks g 0 (at k.parents))) 0) _ h in
      let h3 = and_r (eqb (tree_cost g 0 (at k.parents) mu nu) k.cost) _ h2 in
      let h4 = and_r (same_ℤ (potential_of k 0) (pos 0)) _ h3 in
      record {
        spanning = accepted_spanning g 0 (at k.parents) (eqb-true _ _ (and_l (eqb (refusal (tree_checks g 0 (at k.parents))) 0) _ h));
        zero_at_0 = same_ℤ-eq _ _ (and_l (same_ℤ (potential_of k 0) (pos 0)) _ h3);
        within = λ e l. leb-true _ _ (all-at (edges g) (within_edge g k) (and_l (all (edges g) (within_edge g k)) _ h4) e l);
        weighs = same_ℤ-eq _ _ (and_r (all (edges g) (within_edge g k)) _ h4) ∙ ap pos (sym (cost_is h));
      }

  -- where a best figure holds, the number is 0, the figure is the best cost, and it is that of demand 3 on what checks 1 to 7 accept
  module _ (number : ℕ) (h : certified g mu nu number (said k) ≡ true) where
    figure_number : number ≡ 0
    figure_number = eqb-true _ _ (and_l (eqb number 0) _ h)

    figure_cost : best_cost g mu nu ≡ k.cost
    figure_cost = eqb-true _ _ (and_r (certifies g mu nu k) _ (and_r (eqb number 0) _ h))

    figure_best : Accepted g → sum g.n mu ≡ sum g.n nu → BestOf g mu nu k
    figure_best acc same =
        let ok = and_l (certifies g mu nu k) _ (and_r (eqb number 0) _ h) in
        rw (cost_is ok) at (certified_best g acc mu nu (at k.parents) (potential_of k) same (certificate ok))

-- ---- the table
case_best : (c : Case) → holds c ≡ true → (k : BestFigures) → c.best ≡ said k → BestOf c.patch (at c.lent.mu) (at c.lent.nu) k
unfolding holds
case_best c h k e =
    let g = c.patch in
    let mu = at c.lent.mu in
    let nu = at c.lent.nu in
    let number = eqb-true _ _ (and_l (eqb (given_refusal g c.lent true) c.refusal) _ h) in
    let rest = and_r (eqb (given_refusal g c.lent true) c.refusal) _ h in
    let best : certified g mu nu c.refusal (said k) ≡ true = rw e at (and_l (certified g mu nu c.refusal c.best) _ rest) in
    let a = (given-passed g c.lent true (number ∙ figure_number g mu nu k c.refusal best)).0 in
    figure_best g mu nu k c.refusal best a.problem.accepted (a.problem.before.total ∙ sym a.problem.after.total)

image_best : (b : Bytes) → reads b ≡ true → (k : BestFigures) → b.best ≡ said k → BestAnswer b.image (at k.parents) (potential_of k)
unfolding reads
image_best b h k e =
    let s = b.image in
    let g = graph_of_image s in
    let mu = amount s 0 in
    let nu = amount s 1 in
    let number = eqb-true _ _ (and_l (eqb (run_refusal s (room 0)) b.refusal) _ h) in
    let rest = and_r (eqb (run_refusal s (room 0)) b.refusal) _ h in
    let best : certified g mu nu b.refusal (said k) ≡ true = rw e at (and_l (certified g mu nu b.refusal b.best) _ rest) in
    let a = passed s _ (number ∙ figure_number g mu nu k b.refusal best) in
    rw (figure_cost g mu nu k b.refusal best) (figure_best g mu nu k b.refusal best a.accepted a.same)

-- every case of the table that has a best figure: no plan and no spanning tree costs less than its certificate, and all of demand 3
pub cases_best : {c : Case} → Memᴰ c cases → {k : BestFigures} → c.best ≡ said k
    → BestOf c.patch (at c.lent.mu) (at c.lent.nu) k
cases_best {c} m {k} e = case_best c (every-at holds cases (and_l (every holds cases) _ cases_hold) m) k e

-- every image that has one: its tree and potential are a best answer of the entry
pub images_best : {b : Bytes} → Memᴰ b images → {k : BestFigures} → b.best ≡ said k
    → BestAnswer b.image (at k.parents) (potential_of k)
images_best {b} m {k} e = image_best b (every-at reads images (and_r (every holds cases) _ cases_hold) m) k e
