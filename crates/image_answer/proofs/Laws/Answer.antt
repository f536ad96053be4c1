-- How the answer to an image follows from what was read, and from its tree's evaluation or the best answer.
use Prim.Native.Nat.{ℕ, ◌*◌, ◌≤◌, ◌<◌}
use mathlib.Core.Path.{◌≡◌, refl, sym, ◌∙◌}
use mathlib.Core.Bool.{Bool, true, false}
use mathlib.Core.List.{List, []}
use native.Mathlib.Nat.{mul-le-mul}
use native.Mathlib.Omega.{arith}
use lib.Dec.{leb}
use lib.IntN.{ℤ}
use lib.ListN.{length, get_or, take, drop, length-append, length-drop, get_or-append}
use borrow.Author.Tests.{le-leb, lt-leb}
use Rattle.std.specs.Prelude.{Result, IfOk}
use Rattle.std.specs.declared.result.Result.TheVariants.{Ok, Err}
use Rattle.refusals.specs.declared.Refusal.{Refusal}
use Rattle.refusals.specs.declared.Refusal.TheVariants.{Tables}
use Rattle.refusals.specs.Refusals.{number, number_of}
use Rattle.refusals.proofs.Laws.Outcome.{number_some}
use Rattle.image_answer.specs.declared.Answer.{Answer}
use Rattle.arithmetic.specs.Sum.{pick}
use Rattle.arithmetic.specs.Table.{at, tab, matrix, written}
use Rattle.arithmetic.proofs.Laws.Bools.{case, clash}
use Rattle.arithmetic.proofs.Laws.Table.{length-tab, length-rows, tab-at, tab_ext, rows_ext, front_at, written_refused}
use Rattle.graph.specs.Graph.{graph}
use Rattle.given_tree.specs.Given.{given, answers_ok}
use Rattle.plan_rule.specs.Plan.{moves}
use Rattle.plan_rule.proofs.Laws.PlanMoves.{moves_ext}
use Rattle.tree_evaluation.specs.Evaluate.{Evaluated}
use Rattle.duality.specs.Best.{Best}
use Rattle.duality.specs.BestCost.{best_cost}
use Rattle.duality.proofs.Laws.Agree.{SameTree, itself, same_tree, tree_cost_same, potential_same, plan_same, best_same}
use Rattle.duality.proofs.Laws.BestCost.{best_is}
use Rattle.optimal_transport.specs.Solve.{Solved}
use Rattle.image.specs.Image.{has_tree, vertex_count, amount, root_in, parent_in}
use Rattle.host_record.specs.Record.{record_size}
use Rattle.image.specs.Contents.{graph_of_image}
use Rattle.image_reader.specs.Read.{Lists, Read}
use Rattle.image_reader.proofs.Laws.Tables.{Wide, formed, few, of_vertices, graph_read, amounts_read}
use Rattle.image_answer.specs.ImageAnswer.{answer_refusal, answer_cost, image_plan, evaluated_potential, image_best_cost, BestAnswer}
use Rattle.image_answer.specs.Steps.Answered.{answer_root, answer_parent, answer_potential, answer_plan, success, Answered, Spacious}
use Rattle.image_answer.proofs.Laws.Passed.{Passed, passed}
use Rattle.image_answer.proofs.Laws.Told.{told_same, written_same, success_same}
use Rattle.image_answer.proofs.Laws.AnswerCheck.{read_refused, short_refused, mus, nus, before, after, up, evaluated_number, solved_number}

refused_answer : {s : List ℕ} {fits : Bool} {r : Refusal} {potentials : List ℤ} {entries : List ℕ}
    → number r ≡ answer_refusal s fits → Answered s fits potentials entries (Err r) potentials entries
refused_answer {s} {r = r} e = record {
  refusal = e;
  p = parent_in s;
  u = evaluated_potential s;
  best = λ z. absurd (number_some r (e ∙ z));
  answer_is = tt;
  potentials_are = rw (← e) (written_refused _ _ _ (number_some r));
  plan_is = rw (← e) (written_refused _ _ _ (number_some r));
}

-- what a table that was filled reads in its first places
pub filled_at : {A : Type 0} (n : ℕ) (f : ℕ → A) (d : A) (l lent : List A) → l ≡ written 0 (tab n f) lent → (x : ℕ) → x < n → get_or l x d ≡ f x
filled_at n f d l lent h x k = rw (h, length-tab n f) (front_at n f lent d x k)

-- ---- the answer to what was read
module _ {s : List ℕ} {t t' : Lists} {n m root tree : ℕ} (read : Read s t 0 n m root tree t') where
  -- a call has room for its answers
  room : (x y z : ℕ) → x ≡ 64 → y ≡ 64 → n * n ≤ z → answers_ok (vertex_count s) x y z ≡ true
  unfolding answers_ok
  room x y z p q h = rw (
    le-leb (vertex_count s) x (omega (arith, few read)),
    le-leb (vertex_count s) y (omega (arith, few read)),
    le-leb (vertex_count s * vertex_count s) z (rw read.n_is at h),
  )

  module _ {potentials potentials' : List ℤ} {entries entries' : List ℕ} {k cost moved : ℕ} (o : Result Answer Refusal) (long : length potentials ≡ 64)
      (spacious : n * n ≤ length entries) where
    -- with a tree, which was evaluated
    pub evaluated_answer : (tree ≡ 0 → ⊥) → {imbalances imbalances' : List ℤ} → length imbalances ≡ 64
        → Evaluated (graph n (take m t'.lower) (take m t'.upper) (take m t'.lengths))
        (given (take n t'.mu) (take n t'.nu) root (take n t'.parents)) imbalances potentials entries k cost moved imbalances' potentials' entries'
        → number_of o ≡ k → IfOk o (λ r. r ≡ success n root t'.parents true cost moved) → Answered s true potentials entries o potentials' entries'
    evaluated_answer d {imbalances} l e numbered tells =
        let N = vertex_count s in
        let marked : has_tree s ≡ true = case (has_tree s) (λ h. h) (λ h. absurd (d (read.tree_is ∙ rw h))) in
        let root_is : root ≡ root_in s = rw marked at read.root_is in
        let parents_are : t'.parents ≡ written 0 (tab N (parent_in s)) t.parents = rw marked at read.parents_are in
        let up-read : take n t'.parents ≡ tab N (parent_in s) = of_vertices read (parent_in s) _ _ parents_are in
        let w = rw (graph_read read, (amounts_read read).0, (amounts_read read).1, up-read, root_is) at e in
        let number = w.refusal ∙ evaluated_number (formed read) marked imbalances potentials entries (room (length imbalances) (length potentials) (length entries) l long spacious) in
        let same : k ≡ 0 → SameTree N (root_in s) (at (tab N (parent_in s))) (parent_in s)
        = λ z.
        same_tree (up s) (λ x b. rw (up s x b) ((passed s true (sym number ∙ z)).parents marked x b)) (root_in s) in
        record {
          refusal = numbered ∙ number;
          p = parent_in s;
          u = evaluated_potential s;
          best = λ _ h. absurd (clash marked h);
          answer_is =
              told_same k o numbered (λ z.
              rw marked
              (success_same t'.parents (tab N (parent_in s)) read.n_is root_is
              (λ x b. filled_at N (parent_in s) 0 _ _ parents_are x b ∙ sym (up s x b))
              refl (rw z at w.cost_is ∙ tree_cost_same (graph_of_image s) (same z) (before s) (after s))
              (rw z at w.moves_are ∙ moves_ext N _ _ (plan_same (same z) (before s) (after s)))))
              tells;
          potentials_are =
              w.potential_is ∙ rw (← number, marked)
              (written_same k potentials (λ z. tab_ext N _ _ (potential_same (graph_of_image s) (same z) (before s) (after s))));
          plan_is = w.plan_is ∙ rw (← number, marked) (written_same k entries (λ z. rows_ext N N _ _ (plan_same (same z) (before s) (after s))));
        }

    -- without one, for which the best answer was found
    pub solved_answer : tree ≡ 0 → {parents parents' : List ℕ} → length parents ≡ 64
        → Solved (graph n (take m t'.lower) (take m t'.upper) (take m t'.lengths)) (take n t'.mu) (take n t'.nu)
        parents potentials entries k cost moved parents' potentials' entries'
        → number_of o ≡ k → IfOk o (λ r. r ≡ success n 0 parents' false cost moved) → Answered s true potentials entries o potentials' entries'
    solved_answer d {parents} {parents'} l e numbered tells =
        let N = vertex_count s in
        let unmarked : has_tree s ≡ false = case (has_tree s) (λ h. absurd (let y : tree ≡ 1 = read.tree_is ∙ rw h in omega arith)) (λ h. h) in
        let w = rw (graph_read read, (amounts_read read).0, (amounts_read read).1) at e in
        let number = w.refusal ∙ solved_number (formed read) unmarked parents potentials entries (room (length parents) (length potentials) (length entries) l long spacious) in
        let planned = plan_same (itself N 0 w.p) (before s) (after s) in
        let cost-read = best_cost (graph_of_image s) (at (mus s)) (at (nus s)) in
        let best : k ≡ 0 → Best (graph_of_image s) (amount s 0) (amount s 1) w.p (image_plan s 0 w.p) w.u cost-read
        = λ z.
        best_same (before s) (after s) planned (w.best z) in
        let least : k ≡ 0 → cost-read ≡ image_best_cost s
        = λ z.
        best_is (graph_of_image s) (amount s 0) (amount s 1) (passed s true (sym number ∙ z)).accepted (best z) in
        record {
          refusal = numbered ∙ number;
          p = w.p;
          u = w.u;
          best = λ z _. let y = number ∙ z in rw (← least y) (best y);
          answer_is =
              told_same k o numbered (λ z.
              rw unmarked
              (success_same parents' (tab N w.p) read.n_is refl
              (λ x h. filled_at N w.p 0 _ _ (rw z at w.parents_are) x h ∙ sym (tab-at N w.p 0 x h))
              refl (rw z at w.cost_is ∙ least z) (rw z at w.moves_are ∙ moves_ext N _ _ planned)))
              tells;
          potentials_are = rw (← number, unmarked) w.potentials_are;
          plan_is = w.plan_is ∙ rw (← number, unmarked) (written_same k entries (λ z. rows_ext N N _ _ planned));
        }

-- ---- the answer of an image
pub not_read : {s : List ℕ} {t t' : Lists} {r : Refusal} {n m root tree : ℕ} → Read s t (number r) n m root tree t' → Wide t → {fits : Bool}
    {potentials : List ℤ} {entries : List ℕ} → Answered s fits potentials entries (Err r) potentials entries
not_read {s} {r = r} read w {fits} = refused_answer (read_refused s fits w read.refusal (number_some r))

module _ {s : List ℕ} {t t' : Lists} {n m root tree : ℕ} (read : Read s t 0 n m root tree t') where
  pub plan_fits : {places : ℕ} → Spacious s places → n * n ≤ places
  plan_fits spacious = rw read.n_is (spacious (few read))

  -- the host's buffer is too short, or has room
  pub too_short : {room : ℕ} → room < record_size n → {potentials : List ℤ} {entries : List ℕ}
      → Answered s (leb (record_size (vertex_count s)) room) potentials entries (Err Tables) potentials entries
  too_short {room} h =
      rw (lt-leb (record_size (vertex_count s)) room (rw read.n_is at h)) (refused_answer (short_refused (formed read)))

  pub fitting : {room : ℕ} → record_size n ≤ room → {potentials potentials' : List ℤ} {entries entries' : List ℕ} {r : Result Answer Refusal}
      → Answered s true potentials entries r potentials' entries' → Answered s (leb (record_size (vertex_count s)) room) potentials entries r potentials' entries'
  fitting {room} h a = rw (le-leb (record_size (vertex_count s)) room (rw read.n_is at h)) a

-- ---- what is known of an answer
module _ {s : List ℕ} {fits : Bool} {potentials potentials' : List ℤ} {entries entries' : List ℕ} {r : Answer}
    (a : Answered s fits potentials entries (Ok r) potentials' entries') where
  pub passes : Passed s fits
  passes = passed s fits (sym a.refusal)

  pub best_found : has_tree s ≡ false → BestAnswer s a.p a.u
  best_found = a.best (sym a.refusal)

  pub potentials_filled : potentials' ≡ written 0 (tab (vertex_count s) (answer_potential s a.u)) potentials
  potentials_filled = rw (← a.refusal) at a.potentials_are

  pub plan-filled : entries' ≡ written 0 (matrix (vertex_count s) (answer_plan s a.p)) entries
  plan-filled = rw (← a.refusal) at a.plan_is

  pub root_below : r.tree.root < r.tree.n
  root_below = rw a.answer_is passes.root

  pub answer_few : (r.tree.n ≤ 64) × (r.tree.n * r.tree.n ≤ 4096)
  answer_few = let few = passes.few in rw a.answer_is (few, omega (arith, mul-le-mul few few))

  pub plan-room : {places : ℕ} → Spacious s places → r.tree.n * r.tree.n ≤ places
  plan-room spacious = rw a.answer_is (spacious passes.few)

  pub potentials_long : length potentials ≡ 64 → length potentials' ≡ 64
  potentials_long h =
      let few = passes.few in
      rw (potentials_filled, length-append, length-drop, length-tab) (omega arith)

-- entry c of a plan's table that was filled
pub plan_entry : (n : ℕ) (t : ℕ → ℕ → ℕ) (l lent : List ℕ) → l ≡ written 0 (matrix n t) lent → (c : ℕ) → c < n * n → at l c ≡ at (matrix n t) c
plan_entry n t l lent e c h =
    rw e (get_or-append (matrix n t) (drop (length (matrix n t)) lent) 0 c (rw (length-rows n n t) h))
