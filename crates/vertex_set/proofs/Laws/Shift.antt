-- Numbers of vertices, raised or lowered for all vertices of a word.
use mathlib.Core.Path.{◌≡◌, refl, sym, ◌∙◌}
use mathlib.Core.Bool.{Bool, true, false}
use mathlib.Core.List.{List}
use Prim.Native.Nat.{ℕ, ◌+◌, ◌-◌, ◌*◌, ◌%◌, ◌^◌, ◌≤◌, ◌<◌}
use native.Mathlib.Nat.{zero-div}
use native.Mathlib.Omega.{arith}
use lib.ListN.{length, set, length-set}
use lib.Seq.{get_or-set_same, get_or-set_other}
use Rattle.std.specs.Prelude.{MatchBool}
use Rattle.arithmetic.specs.Table.{at}
use Rattle.arithmetic.specs.Steps.Mask.{bit}
use Rattle.arithmetic.proofs.Laws.Bools.{case≡, clash}
use Rattle.vertex_set.specs.Lowest.{lowest}
use Rattle.vertex_set.specs.Steps.Shift.{shifted, Room, CanShiftWord, shifted_within, WordShifted}
use Rattle.vertex_set.proofs.Laws.Without.{Without, without-lowest}

-- what the generic `shifted` asks and gives, at words of w bits
pub room_fits : (w : ℕ) (rises : Bool) (d u : ℕ) → Room w rises d u → MatchBool rises (u + d < 2 ^ w) (d ≤ u)
room_fits w true d u h = h
room_fits w false d u h = h

pub shifted_is : (rises : Bool) (d u k : ℕ) → MatchBool rises (k ≡ u + d) (k ≡ u - d) → k ≡ shifted rises d u
shifted_is true d u k h = h
shifted_is false d u k h = h

-- there is room for less where there is for more
pub room_less : (w : ℕ) (rises : Bool) (d e u : ℕ) → d ≤ e → Room w rises e u → Room w rises d u
room_less w true d e u l h = omega arith
room_less w false d e u l h = omega arith

-- what is left to do makes of u what the word makes of t
pub record ShiftingWord (n word : ℕ) (rises : Bool) (d : ℕ) (t u : List ℕ) (left : ℕ) : Type 0 where
  pub can : CanShiftWord n left rises d u
  pub size : length u ≡ length t
  pub same : (x : ℕ) → x < n → shifted_within left rises d u x ≡ shifted_within word rises d t x

module _ {n word : ℕ} {rises : Bool} {d : ℕ} {t : List ℕ} where
  pub shifting_none : CanShiftWord n word rises d t → ShiftingWord n word rises d t t word
  shifting_none can = record { can = can; size = refl; same = λ x l. refl }

  module _ {u : List ℕ} {left x : ℕ} (w : ShiftingWord n word rises d t u left) (first : (x ≡ lowest (bit left) n 0) × (x < n)) where
    pub shifting_out : Without n left x ((1 * 2 ^ x) % 2 ^ 64)
    shifting_out = without-lowest n left x w.can.few w.can.set first

    pub shifting_room : Room 32 rises d (at u x)
    shifting_room = w.can.room x first.1 shifting_out.has

    pub shifting_more : (k : ℕ) → k ≡ shifted rises d (at u x) → ShiftingWord n word rises d t (set u x k) (left - (1 * 2 ^ x) % 2 ^ 64)
    shifting_more k e = record {
      can = record {
        few = w.can.few;
        size = rw (length-set u x k) w.can.size;
        set = shifting_out.word;
        room = λ y l h.
            case≡ y x
            (λ g. clash (rw g at h) shifting_out.gone)
            (λ g. rw (get_or-set_other u x y k 0 g) (w.can.room y l (sym (shifting_out.kept y l g) ∙ h)));
      };
      size = length-set u x k ∙ w.size;
      same = λ y l.
          case≡ y x
          (λ g. rw (g, shifting_out.gone, get_or-set_same u x k 0 (omega (arith, w.can.size, w.can.few, first.1))) (e ∙ rw shifting_out.has at (w.same x first.1)))
          (λ g. rw (shifting_out.kept y l g, get_or-set_other u x y k 0 g) (w.same y l));
    }

  pub shifting_end : {u : List ℕ} {left : ℕ} → ShiftingWord n word rises d t u left → left ≡ 0 → WordShifted word rises d t u n
  shifting_end {u} {left} w e = record { size = w.size; done = λ x l. rw (e, zero-div (2 ^ x)) at (w.same x l) }
