-- How the host record follows from the answer to an image.
use Prim.Native.Nat.{ℕ, ◌≤◌}
use mathlib.Core.Path.{◌≡◌, ap, ◌∙◌}
use mathlib.Core.List.{List}
use lib.Dec.{leb}
use lib.IntN.{ℤ, pos}
use lib.ListN.{length, get_or}
use borrow.Author.Tests.{leb-true}
use Rattle.std.specs.declared.result.Result.TheVariants.{Ok, Err}
use Rattle.refusals.specs.declared.Refusal.{Refusal}
use Rattle.refusals.specs.Refusals.{number}
use Rattle.refusals.proofs.Laws.Outcome.{number_some}
use Rattle.image_answer.specs.declared.Answer.{Answer}
use Rattle.arithmetic.specs.Table.{at, tab, written}
use Rattle.arithmetic.proofs.Laws.Bools.{case}
use Rattle.arithmetic.proofs.Laws.Table.{tab-at, written_refused}
use Rattle.spanning_tree.proofs.Laws.TreeValue.{held_at}
use Rattle.image.specs.Image.{has_tree, vertex_count}
use Rattle.host_record.specs.Record.{record_bytes, record_size}
use Rattle.host_record.proofs.Laws.Record.{record_ext}
use Rattle.image_answer.specs.ImageAnswer.{answer_cost}
use Rattle.image_answer.specs.Steps.Answered.{answer_root, answer_parent, answer_potential, answer_plan, Answered}
use Rattle.image_answer.proofs.Laws.Answer.{passes, best_found, potentials_filled, plan-filled, filled_at, plan_entry}
use Rattle.weight_mover.specs.Run.{plan_record, evaluated_record, answer_record, Ran}

-- the record of the answer, by its parts
answer-record : (s : List ℕ) (p : ℕ → ℕ) (u : ℕ → ℤ)
    → plan_record s (answer_cost s) (answer_root s) (answer_parent s p) (answer_potential s u) ≡ answer_record s p u
unfolding evaluated_record
answer-record s p u = case (has_tree s) (λ e. rw e) (λ e. rw e)

module _ {s : List ℕ} (buffer : List ℕ) {potentials potentials' : List ℤ} {entries entries' : List ℕ} where
  pub run_refused : {r : Refusal} → Answered s (leb (record_size (vertex_count s)) (length buffer)) potentials entries (Err r) potentials' entries'
      → Ran s buffer (number r) buffer
  run_refused {r} a = record {
    refusal = a.refusal;
    p = a.p;
    u = a.u;
    best = λ z. absurd (number_some r z);
    buffer_is = written_refused _ _ _ (number_some r);
  }

  module _ {r : Answer} (a : Answered s (leb (record_size (vertex_count s)) (length buffer)) potentials entries (Ok r) potentials' entries') where
    pub run_room : record_size r.tree.n ≤ length buffer
    run_room = rw a.answer_is (leb-true (record_size (vertex_count s)) (length buffer) (passes a).fitting)

    pub run_done : {buffer' : List ℕ}
        → buffer' ≡ written 0 (record_bytes r.tree.n r.cost r.moves r.tree.root (at r.tree.parents)
        (λ y. get_or potentials' y (pos 0)) (at entries')) buffer
        → Ran s buffer 0 buffer'
    run_done e = record {
      refusal = a.refusal;
      p = a.p;
      u = a.u;
      best = λ _. best_found a;
      buffer_is = e ∙ ap (λ (b : List ℕ). written 0 b buffer) (bytes ∙ answer-record s a.p a.u);
    }
      where
        N : ℕ
        N = vertex_count s

        parents : List ℕ
        parents = tab N (answer_parent s a.p)

        bytes : record_bytes r.tree.n r.cost r.moves r.tree.root (at r.tree.parents) (λ y. get_or potentials' y (pos 0)) (at entries')
            ≡ plan_record s (answer_cost s) (answer_root s) (answer_parent s a.p) (answer_potential s a.u)
        bytes =
            rw a.answer_is
            (record_ext N _ _ _ _ _ _ _ _ _
            (λ x h. held_at N parents (passes a).few x h ∙ tab-at N (answer_parent s a.p) 0 x h)
            (filled_at N (answer_potential s a.u) (pos 0) potentials' potentials (potentials_filled a))
            (plan_entry N (answer_plan s a.p) entries' entries (plan-filled a)))
