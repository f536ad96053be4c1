-- How the listing follows from the answer to an image.
use Prim.Native.Nat.{ℕ, ◌+◌, ◌*◌, ◌≤◌}
use mathlib.Core.Path.{◌≡◌, sym, ◌∙◌}
use mathlib.Core.Bool.{true, false, and-false}
use mathlib.Core.List.{List, ◌++◌}
use native.Mathlib.Nat.{mul-le-mul}
use native.Mathlib.Omega.{arith}
use lib.Dec.{leb}
use lib.IntN.{ℤ}
use lib.ListN.{length, length-append}
use borrow.Author.Tests.{eq-eqb, ne_eqb, le-leb, lt-leb}
use Rattle.std.specs.declared.result.Result.TheVariants.{Ok, Err}
use Rattle.refusals.specs.declared.Refusal.{Refusal}
use Rattle.refusals.specs.Refusals.{number}
use Rattle.refusals.proofs.Laws.Outcome.{number_some}
use Rattle.image_answer.specs.declared.Answer.{Answer}
use Rattle.arithmetic.specs.Table.{written}
use Rattle.arithmetic.specs.Refusal.{refusal}
use Rattle.arithmetic.specs.Steps.Table.{cell}
use Rattle.arithmetic.proofs.Laws.Bools.{case≤}
use Rattle.arithmetic.proofs.Laws.Table.{rows_at, cell_below}
use Rattle.graph.specs.Checks.{vertices_ok}
use Rattle.image.specs.Image.{has_tree, vertex_count, root_in, parent_in}
use Rattle.image.specs.ImageChecks.{image_checks}
use Rattle.host_record.specs.Record.{record_size}
use Rattle.image_answer.specs.ImageAnswer.{answer_refusal, image_plan}
use Rattle.image_answer.specs.Steps.Answered.{Answered}
use Rattle.image_answer.proofs.Laws.Answer.{plan-filled, plan_entry}
use Rattle.listing_lines.specs.Lines.{line, cost_word, moves_word, best_word, refused_word, plan_lines}
use Rattle.listing_lines.proofs.Laws.Line.{plan_ext}
use Rattle.listing.specs.Listing.{evaluated_listing, listing, Listed}

-- 1 is refused before 2
fits_anyway : (s : List ℕ) → answer_refusal s (leb (record_size (vertex_count s)) 16717) ≡ answer_refusal s true
unfolding answer_refusal image_checks refusal vertices_ok
fits_anyway s =
    case≤ (vertex_count s) 64
    (λ l. rw (le-leb (record_size (vertex_count s)) 16717 (omega (arith, mul-le-mul l l))))
    (λ l. rw (lt-leb (vertex_count s) 64 l, and-false))

listed : {s out out' : List ℕ} {size : ℕ} (text : List ℕ) → text ≡ listing s → out' ≡ written 0 text out → size ≡ length text → Listed s out size out'
listed text e o l = record { buffer_is = rw e at o; size_is = rw e at l }

module _ {s : List ℕ} {potentials potentials' : List ℤ} {entries entries' : List ℕ} where
  refused_text : (f : Refusal) → Answered s (leb (record_size (vertex_count s)) 16717) potentials entries (Err f) potentials' entries'
      → line refused_word (number f) ≡ listing s
  unfolding listing
  refused_text f a = rw (← fits_anyway s, ← a.refusal, ne_eqb (number f) 0 (number_some f))

  pub refused_listed : (f : Refusal) {out out' : List ℕ} {size : ℕ}
      → Answered s (leb (record_size (vertex_count s)) 16717) potentials entries (Err f) potentials' entries'
      → out' ≡ written 0 (line refused_word (number f)) out → size ≡ length (line refused_word (number f)) → Listed s out size out'
  refused_listed f a = listed _ (refused_text f a)

  module _ {r : Answer} (a : Answered s (leb (record_size (vertex_count s)) 16717) potentials entries (Ok r) potentials' entries') where
    accepted : answer_refusal s true ≡ 0
    accepted = rw (← fits_anyway s) (sym a.refusal)

    given_is : r.given ≡ has_tree s
    given_is = rw a.answer_is

    best_text : r.given ≡ false → line best_word r.cost ≡ listing s
    unfolding listing
    best_text d =
        let h : has_tree s ≡ false = sym given_is ∙ d in
        rw (eq-eqb (answer_refusal s true) 0 accepted, h, a.answer_is, h)

    evaluated_text : r.given ≡ true
        → line cost_word r.cost ++ (line moves_word r.moves ++ plan_lines (cell r.tree.n entries') r.tree.n r.tree.n) ≡ listing s
    unfolding listing evaluated_listing
    evaluated_text d =
        let N = vertex_count s in
        let h : has_tree s ≡ true = sym given_is ∙ d in
        let planned = image_plan s (root_in s) (parent_in s) in
        rw (
          eq-eqb (answer_refusal s true) 0 accepted,
          a.answer_is,
          h,
          plan_ext (cell N entries') planned N N (λ i j p q.
              plan_entry N planned entries' entries (rw h at (plan-filled a)) (i * N + j) (cell_below N i j p q) ∙ rows_at N N planned 0 i j p q),
        )

    pub best_listed : {out out' : List ℕ} {size : ℕ} → r.given ≡ false → out' ≡ written 0 (line best_word r.cost) out
        → size ≡ length (line best_word r.cost) → Listed s out size out'
    best_listed t = listed _ (best_text t)

    pub evaluated_listed : {out out' : List ℕ} {size : ℕ} → r.given ≡ true
        → out' ≡ written 0 (line cost_word r.cost ++ (line moves_word r.moves ++ plan_lines (cell r.tree.n entries') r.tree.n r.tree.n)) out
        → size ≡ length (line cost_word r.cost ++ (line moves_word r.moves ++ plan_lines (cell r.tree.n entries') r.tree.n r.tree.n))
        → Listed s out size out'
    evaluated_listed t = listed _ (evaluated_text t)

-- the text lies within the buffer
pub listed_within : {s out out' : List ℕ} {r : ℕ} → Listed s out r out' → r ≤ length out'
listed_within l = rw (l.buffer_is, length-append) (omega (arith, l.size_is))
