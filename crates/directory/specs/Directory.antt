-- Documents 01 and 02: "pairs of 32-bit offset and length, sorted by offset". s is the bytes that they stand in, from place d on.
use Rattle.std.specs.Prelude.{ℕ, ◌+◌, ◌*◌, ◌-◌, Bool, ◌&&◌, ◌||◌, List, length, eqb, leb}
use Rattle.little_endian.specs.LittleEndian.{four}

-- where section t starts, how many bytes it has, and where it ends
abbrev pub offset_in : ℕ → List ℕ → ℕ → ℕ
offset_in d s t = four s (d + 8 * t)

abbrev pub extent_in : ℕ → List ℕ → ℕ → ℕ
extent_in d s t = four s (d + 4 + 8 * t)

abbrev pub end_in : ℕ → List ℕ → ℕ → ℕ
end_in d s t = offset_in d s t + extent_in d s t

-- it does not start before place `first` or before its forerunner's end, nor end past the bytes
unfoldable pub pair_ok : (d first : ℕ) → List ℕ → ℕ → Bool
pair_ok d first s t =
    leb first (offset_in d s t) && ((eqb t 0 || leb (end_in d s (t - 1)) (offset_in d s t)) && leb (end_in d s t) (length s))
