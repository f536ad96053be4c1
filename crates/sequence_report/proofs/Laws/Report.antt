-- The report follows from the sheet of all images.
use Prim.Native.Nat.{ℕ, ◌+◌, ◌*◌, ◌^◌, ◌≤◌, ◌<◌}
use mathlib.Core.Path.{◌≡◌, refl, sym, ap, ◌∙◌}
use mathlib.Core.Bool.{Bool, true, false}
use mathlib.Core.List.{List}
use native.Mathlib.Omega.{arith}
use lib.Dec.{eqb, leb}
use lib.IntN.{ℤ}
use borrow.Author.Tests.{eqb-true, ne_eqb}
use Rattle.arithmetic.specs.Refusal.{refusal}
use Rattle.arithmetic.specs.Table.{at, tab, written}
use Rattle.arithmetic.proofs.Laws.Bools.{case, case≡}
use Rattle.arithmetic.proofs.Laws.Table.{tab-at, tab_ext}
use Rattle.cost_sheet.specs.declared.Sheet.{Sheet}
use Rattle.cost_sheet.specs.Sheet.{count_of, cost_at, first_greatest}
use Rattle.cost_sheet.specs.Steps.Sheet.{Tells}
use Rattle.cost_sheet.proofs.Laws.Figures.{count_most, sum_most, first_none}
use Rattle.cost_sheet.proofs.Laws.Sheet.{place_counted}
use Rattle.image_sequence.specs.Sequence.{image_count, image_at, sequence_ok}
use Rattle.image.specs.Image.{vertex_count}
use Rattle.host_record.specs.Record.{record_size}
use Rattle.std.specs.Prelude.{Result, IfOk, Option, unwrap_or}
use Rattle.refusals.specs.declared.Refusal.{Refusal}
use Rattle.refusals.specs.Refusals.{number_of}
use Rattle.image_answer.specs.declared.Answer.{Answer}
use Rattle.image_answer.specs.ImageAnswer.{answer_refusal}
use Rattle.image_answer.specs.Steps.Answered.{Answered}
use Rattle.image_answer.proofs.Laws.Outcome.{number_below, cost_most, outcome_number, outcome_cost}
use Rattle.sequence_report.specs.Report.{image_number, image_cost, images_with, report_refusal, Reported}
use Rattle.sequence_report.specs.Steps.Told.{Told}

pub tells_at : {i i' : ℕ} {number cost : ℕ → ℕ} {t : Sheet} → i ≡ i' → Tells i number cost t → Tells i' number cost t
tells_at e w = rw e at w

module _ (s : List ℕ) where
  -- ---- one image more

  -- what was answered of image i
  module _ (i : ℕ) {image : List ℕ} (image-is : image ≡ image_at s i) {potentials potentials' : List ℤ} {entries entries' : List ℕ} {r : Result Answer Refusal}
      (a : Answered image (leb (record_size (vertex_count image)) 16717) potentials entries r potentials' entries') where
    pub number_told : number_of r ≡ image_number s i
    number_told = outcome_number (omega arith) a ∙ ap (λ (m : List ℕ). answer_refusal m true) image-is

    pub cost_told : IfOk r (λ b. b.cost ≡ image_cost s i)
    cost_told = rw image-is at (outcome_cost (omega arith) a)

  pub cost_bounded : (i : ℕ) → cost_at (image_number s) (image_cost s) i ≤ 63 * (65535 * 2 ^ 24)
  cost_bounded i =
      case (eqb (image_number s i) 0)
      (λ e. rw e (cost_most (image_at s i) true (eqb-true (image_number s i) 0 e)))
      (λ e. rw e (omega arith))

  -- "The sum is exact": it fits
  module _ {i r : ℕ} {t : Sheet} (l : i < 65536) (w : Told s i t) (e : r ≡ image_number s i) where
    pub room_for : (r < 24) × (at t.tally r + 1 < 2 ^ 32)
    room_for =
        let below : r < 24 = omega (arith, number_below (image_at s i) true) in
        (below, omega (arith, place_counted w e below, count_most (image_number s) i r))

    pub sum_fits : {cost : ℕ} → r ≡ 0 → cost ≡ image_cost s i → t.sum + cost < 2 ^ 64
    sum_fits z f =
        omega (
          arith,
          w.total,
          sum_most (image_number s) (image_cost s) i (63 * (65535 * 2 ^ 24)) (λ j _. cost_bounded j),
          cost_most (image_at s i) true (sym e ∙ z),
        )

  -- ---- the report

  pub not_sequence : (room : Bool) → sequence_ok s ≡ false → Reported s room 14 0 0 0 0
  unfolding report_refusal refusal
  not_sequence room h = record { refusal = rw h; accepted_are = refl; sum_is = refl; greatest_is = refl; first_is = refl }

  pub no_room : {room : Bool} → sequence_ok s ≡ true → room ≡ false → Reported s room 2 0 0 0 0
  unfolding report_refusal refusal
  no_room h e = record { refusal = rw (h, e); accepted_are = refl; sum_is = refl; greatest_is = refl; first_is = refl }

  module _ {t : Sheet} (w : Told s (image_count s) t) where
    first_told : (o : Option ℕ) (d : ℕ) → o ≡ t.first → d ≡ image_count s
        → unwrap_or o d ≡ first_greatest (image_count s) (image_number s) (image_cost s)
    first_told o d e f =
        rw (e, w.place)
        (case≡ (count_of (image_count s) (image_number s) 0) 0
        (λ z. rw (z, f) (sym (first_none (image_number s) (image_cost s) (image_count s) z)))
        (λ k. rw (ne_eqb (count_of (image_count s) (image_number s) 0) 0 k)))

    pub all_told : {room : Bool} {first d : ℕ} → sequence_ok s ≡ true → room ≡ true → d ≡ image_count s → first ≡ unwrap_or t.first d
        → Reported s room 0 (at t.tally 0) t.sum t.greatest first
    unfolding report_refusal refusal
    all_told {d = d} h e f g = record {
      refusal = rw (h, e);
      accepted_are = ap (λ (l : List ℕ). at l 0) w.counts ∙ tab-at 24 (images_with s) 0 0 (omega arith);
      sum_is = w.total;
      greatest_is = w.most;
      first_is = g ∙ first_told t.first d refl f;
    }

    -- the counts in a lent table
    pub counts-written : (old : List ℕ) {new : List ℕ} → new ≡ written 0 (tab 24 (at t.tally)) old → new ≡ written 0 (tab 24 (images_with s)) old
    counts-written old e =
        e ∙ ap (λ (l : List ℕ). written 0 l old)
        (tab_ext 24 (at t.tally) (images_with s) (λ k l. ap (λ (m : List ℕ). at m k) w.counts ∙ tab-at 24 (images_with s) 0 k l))
