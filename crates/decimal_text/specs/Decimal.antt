-- Numbers in base ten.
use Rattle.std.specs.Prelude.{ℕ, zero, suc, ◌+◌, ◌/◌, ◌%◌, cond, List, [], ◌∷◌, ◌++◌, ltb, ℤ, pos, negsuc, nat_abs}

-- x in base ten, of at most k digits, without leading zeros
unfoldable pub digits : ℕ → ℕ → List ℕ
digits zero x = []
digits (suc k) x = cond (ltb x 10) ((48 + x) ∷ []) (digits k (x / 10) ++ ((48 + x % 10) ∷ []))

-- any number of 64 bits
abbrev pub decimal : ℕ → List ℕ
decimal x = digits 20 x

-- an integer: by document 02, W-213, "a minus sign straight before its digits"
abbrev pub sign_of : ℤ → List ℕ
sign_of (pos k) = []
sign_of (negsuc k) = 45 ∷ []

abbrev pub signed_decimal : ℤ → List ℕ
signed_decimal z = sign_of z ++ decimal (nat_abs z)
