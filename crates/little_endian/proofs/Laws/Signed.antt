-- Two's complement: the bits of a signed number of 32 bits.
use mathlib.Core.Path.{◌≡◌, ap}
use Prim.Native.Nat.{◌<◌, ◌^◌}
use lib.IntN.{ℤ}
use lib.Signed.{mag}
use mir.Syntax.{w32}
use mir.Val.{to_z, of_z}
use mir.ValLaws.{to_z-of_z}
use Rattle.little_endian.specs.LittleEndian.{signed}

-- a signed number that was read from memory
pub read_signed : (z : ℤ) → mag z < 2 ^ 31 → signed (to_z w32 (of_z w32 z)) ≡ signed z
read_signed z h = ap signed (to_z-of_z w32 z (record { sfits = h }))
